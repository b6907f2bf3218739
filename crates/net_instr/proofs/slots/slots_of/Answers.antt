use Rattle.std.proofs.Common.{arith}
use Rattle.net_instr.proofs.Steps.{below_here}
use Rattle.net_instr.proofs.slots.slots_of.Goals as goal

pub loop-instr-preserved : goal.loop-instr-preserved
loop-instr-preserved c =
    let l = c.loop-instr in
    let most = c.max-slots.ensures in
    record {
      below = λ limit h rest.
          l.invariant.below limit (omega (arith, h, most))
          (below_here limit c.args.code.now l.instr-index _ c.loop-instr-test.true (c.slots_for.ensures limit (omega
          (arith, h, most))) rest);
      least = let h = l.invariant.least in omega (arith, h, most);
    }
