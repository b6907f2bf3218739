use Rattle.std.proofs.lemmas.Bool.{eqb-true, eq-eqb}
use Rattle.replay_run.proofs.Forward.{in-ended, in-when, may-ask, stand}
use Rattle.replay_run.proofs.cursors.is_in.Goals as goal

pub epoch-requires : goal.epoch-requires
epoch-requires c =
    let w = c.requires in (
      w.0,
      stand w.0 c.args.epoch w.1 w.2 w.3,
      w.4.stands,
      may-ask w.0 c.args.epoch w.1 w.2 w.3 c.args.cursor.now c.at_end.result w.4 (c.at_end.ensures w.0) c.if-not-at_end.true,
    )

pub returns-then-not-at_end : goal.returns-then-not-at_end
returns-then-not-at_end c t kind channel n is =
    let says = in-when t c.args.epoch kind channel n c.args.cursor.now c.at_end.result c.epoch.result is (c.at_end.ensures t) (c.epoch.ensures t)
    c.if-not-at_end.true in (
      λ b. says.0 (eqb-true c.epoch.result c.args.epoch b),
      λ l. eq-eqb c.epoch.result c.args.epoch (says.1 l),
    )

pub returns-else-not-at_end : goal.returns-else-not-at_end
returns-else-not-at_end c t kind channel n is =
    in-ended t c.args.epoch kind channel n c.args.cursor.now c.at_end.result is (c.at_end.ensures t) c.if-not-at_end.false
