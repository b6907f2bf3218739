use Rattle.std.proofs.Common.{◌+◌, ◌*◌, ap, sym, ◌∙◌, arith, get_or}
use Rattle.std.specs.Int.{bit_at}
use Rattle.trace_code.proofs.Tallying.{tallied-at}
use Rattle.trace_code.proofs.tally.Tally.turn_to.Goals as goal

pub returns-then-ends-self-clause-each : goal.returns-then-ends-self-clause-each
returns-then-ends-self-clause-each c k l =
    let was = c.args.self.now in omega (arith, c.add_times.ensures.each k l, tallied-at was.clock was.ends was.times k l)

pub returns-else-ends-self-clause-each : goal.returns-else-ends-self-clause-each
returns-else-ends-self-clause-each c k l =
    let was = c.args.self.now in
    ap (λ e. get_or was.clock k 0 + was.times * bit_at e k) c.if-ends-self.false ∙ sym (tallied-at was.clock was.ends was.times k l)
