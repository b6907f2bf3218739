use Rattle.run_stage.proofs.Unreset.{ruled}
use Rattle.run_stage.proofs.straight.StraightStretchPlayer.is_done.Goals as goal

pub returns : goal.returns
returns g c first past here stands are is =
    c.is_done.ensures first.player.now here stands.2 (ruled (g.P.Player.map first.player.now) (g.P.Player.rule first.player.now) past here are) is
