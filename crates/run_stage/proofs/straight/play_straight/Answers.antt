use Rattle.std.proofs.lemmas.Result.{IfErr-weaker, IfOk-weaker}
use Rattle.run_stage.proofs.Unreset.{came, has-come, of-either, plays-on, stops-on}
use Rattle.run_stage.proofs.straight.play_straight.Goals as goal

pub returns-clause-ok : goal.returns-clause-ok
returns-clause-ok g c =
    let player = c.args.straight.now.player.now in
    let m = c.args.map.now in
    let rule = g.P.Player.rule player in
    let ends = g.P.Player.ends player in
    IfOk-weaker c.play_stretches.result _ _ (λ ending ok. (
      ok.1,
      ok.2.2,
      has-come ends c.args.cycles ok.0 ok.1 ok.2.0 ok.3,
      came ends c.args.cycles ok.0 ok.1 ending ok.2.0 ok.4,
      (λ d begins. (
        plays-on d m rule (g.S.Stage.runs c.args.stage.now c.play_stretches.new.stage) c.play_stretches.new.rows.last ok.0 ok.1 ok.2.0 (ok.5 d begins).0,
        stops-on d m rule ok.0 ok.1 ending (ok.5 d begins).1,
      )),
    )) c.play_stretches.ensures.ok

pub returns-clause-fault : goal.returns-clause-fault
returns-clause-fault g c =
    let player = c.args.straight.now.player.now in
    let m = c.args.map.now in
    let rule = g.P.Player.rule player in
    let ends = g.P.Player.ends player in
    IfErr-weaker c.play_stretches.result _ _ (λ fault broke. (
      broke.1,
      broke.2.2,
      has-come ends c.args.cycles broke.0 broke.1 broke.2.0 broke.3,
      (λ d begins. plays-on d m rule (g.S.Stage.runs c.args.stage.now c.play_stretches.new.stage) c.play_stretches.new.rows.last broke.0 broke.1 broke.2.0
          (broke.4 d begins)),
    )) c.play_stretches.ensures.fault

pub returns-clause-name : goal.returns-clause-name
returns-clause-name g c = of-either c.play_stretches.result _ _ _ c.play_stretches.ensures.ok c.play_stretches.ensures.fault
    (λ ending ok. ok.2.1) (λ fault broke. broke.2.1)
