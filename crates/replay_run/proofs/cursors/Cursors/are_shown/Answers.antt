use Rattle.std.proofs.lemmas.Bool.{eqb-true, eq-eqb, false≢true}
use Rattle.replay_run.proofs.Forward.{flying-when, none-when}
use Rattle.replay_run.proofs.cursors.Cursors.are_shown.Goals as goal

pub returns-then-self-eq0 : goal.returns-then-self-eq0
returns-then-self-eq0 c = (
  λ r. (
    c.if-self-eq0.true,
    flying-when c.args.starts c.in_flight.result c.without.result c.args.last.now c.in_flight.ensures c.without.ensures.each
        (eqb-true c.without.result 0 r),
  ),
  λ x. eq-eqb c.without.result 0
      (none-when c.args.starts c.in_flight.result c.without.result c.args.last.now c.in_flight.ensures c.without.ensures.each x.1),
)

pub returns-else-self-eq0 : goal.returns-else-self-eq0
returns-else-self-eq0 c = (
  λ r. absurd (c.if-self-eq0.false (eqb-true c.args.self.now.ends.more 0 r)),
  λ x. absurd (c.if-self-eq0.false x.0),
)
