use Rattle.std.proofs.Common.{◌∷◌, ◌++◌, []}
use Rattle.std.proofs.lemmas.Result.{IfErr-weaker, IfOk-weaker}
use Rattle.run_stage.proofs.Unreset.{long, ruled}
use Rattle.run_stage.proofs.straight.StraightStretchPlayer.keep.Goals as goal

pub keep-requires : goal.keep-requires
keep-requires g c =
    let r = c.requires in
    let first = r.0.player.now in (
      first,
      r.2,
      long r.1 r.2 c.args.cycle r.5.0 r.3,
      r.4,
      r.5.2,
      ruled (g.P.Player.map first) (g.P.Player.rule first) r.1 (r.2 ++ c.args.last.now ∷ []) r.6,
    )

pub returns-clause-stands : goal.returns-clause-stands
returns-clause-stands g c = IfOk-weaker c.keep.result _ _
    (λ u kept first past here count stands are. (
      stands.0,
      stands.1,
      kept first.player.now here (long past here c.args.cycle stands.0 count) stands.2
          (ruled (g.P.Player.map first.player.now) (g.P.Player.rule first.player.now) past (here ++ c.args.last.now ∷ []) are),
    )) c.keep.ensures.stands

pub returns-clause-broke : goal.returns-clause-broke
returns-clause-broke g c = IfErr-weaker c.keep.result _ _
    (λ fault broke first past here count stands are. (
      stands.0,
      stands.1,
      broke first.player.now here (long past here c.args.cycle stands.0 count) stands.2
          (ruled (g.P.Player.map first.player.now) (g.P.Player.rule first.player.now) past (here ++ c.args.last.now ∷ []) are),
    )) c.keep.ensures.broke
