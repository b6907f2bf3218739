use Rattle.net_instr.proofs.NeedLaws.{noted}
use Rattle.net_instr.proofs.machine.one_noted.Goals as goal

pub returns-clause-kept : goal.returns-clause-kept
returns-clause-kept c = λ h.
    let n = c.is_moved.ensures h in (
      n.0,
      noted c.args.limit c.args.instr.now c.args.slots.now c.one-skip.new.slots c.target-to.result c.front-before.result c.front-after.result
          c.target-to.ensures c.front-before.ensures c.one-skip.ensures.slots c.front-after.ensures n.1,
    )
