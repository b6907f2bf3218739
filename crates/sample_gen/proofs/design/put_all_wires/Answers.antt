use Rattle.std.proofs.Common.{◌+◌, ◌-◌, ℕ, arith, string_bytes}
use Rattle.sample_gen.specs.Design.{wires}
use Rattle.sample_gen.proofs.Steps.{piece_more}
use Rattle.sample_gen.proofs.design.put_all_wires.Goals as goal

pub loop-i-preserved : goal.loop-i-preserved
loop-i-preserved c =
    let i : ℕ = c.loop-i.i in
    piece_more wires 1 (i - 1) (i + 1 - 1) i (string_bytes c.args.text.now) (string_bytes c.loop-i.text) (string_bytes c.put_wires.new.text)
    (omega (arith, c.loop-i.auto.i)) (omega (arith, c.loop-i.auto.i)) c.loop-i.invariant c.in_ok-put_wires.ensures
