use Rattle.std.proofs.Common.{refl}
use Rattle.run_stage.proofs.Stretching.{turned}
use Rattle.run_stage.proofs.cycle.turn.Goals as goal

pub returns-clause-resets : goal.returns-clause-resets
returns-clause-resets g c same first start d past here some turns at =
    turned d c.args.map.now (g.S.Stage.map c.args.stage.now) (g.P.StretchPlayer.rule first) (g.P.StretchPlayer.turns first) (g.S.Stage.runs start c.args.stage.now)
    (g.S.Stage.runs start c.reset.new.self) c.args.rows.now.last _ past here c.requires.mapped refl some turns
    (λ s runs. c.reset.ensures.first start d s past here runs) at
