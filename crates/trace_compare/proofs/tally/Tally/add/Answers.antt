use Rattle.std.proofs.Common.{refl, arith}
use Rattle.trace_compare.proofs.Tallies.{tally-none, tally-some}
use Rattle.trace_compare.proofs.tally.Tally.add.Goals as goal

pub returns-then-self-eq0 : goal.returns-then-self-eq0
returns-then-self-eq0 c = λ marks is. rw c.if-mark.false (tally-none marks c.args.self.now _ is c.if-self-eq0.true refl refl)

pub returns-else-self-eq0 : goal.returns-else-self-eq0
returns-else-self-eq0 c = λ marks is. rw c.if-mark.false (tally-some marks c.args.self.now _ is (omega arith) refl refl)
