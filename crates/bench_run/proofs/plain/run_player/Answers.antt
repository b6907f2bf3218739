use Rattle.std.proofs.Common.{refl, sym, subst, ◌∙◌}
use Rattle.std.proofs.lemmas.Result.{IfOk-weaker}
use Rattle.bench_run.proofs.Growing.{if-err, of-either, plain-as, plain-behind, within}
use Rattle.bench_run.specs.Plain.{GoesOn}
use Rattle.bench_run.proofs.plain.run_player.Goals as goal

pub play_stretches-requires-clause-stands : goal.play_stretches-requires-clause-stands
play_stretches-requires-clause-stands g c = (
  record { map = refl; resets_are = refl; name = refl; cells = refl; plan = refl; channels = c.requires.channels; few = c.requires.few },
  c.requires.at,
)

pub returns-clause-run : goal.returns-clause-run
returns-clause-run g c =
    let player = c.args.player.now in
    let m = player.map.now in
    let offer = g.E.Env.offer (g.E.Env.plan player.env.now) in
    IfOk-weaker c.play_stretches.result _ _ (λ ending ok d begun.
    (let plays = (ok.5 d begun).0 in
    plain-as d m offer player.resets.now ok.0 ok.1 plays.played ok.3.asked c.args.cycles c.play_stretches.new.player.cells.now.rows ending _
    ok.2.1.kept_are refl plays.stable ok.4 (ok.5 d begun).1)) c.play_stretches.ensures.ok

pub returns-clause-behind : goal.returns-clause-behind
returns-clause-behind g c =
    let player = c.args.player.now in
    let m = player.map.now in
    let offer = g.E.Env.offer (g.E.Env.plan player.env.now) in
    IfOk-weaker c.play_stretches.result _ _ (λ ending ok d begun.
    (let plays = (ok.5 d begun).0 in
    subst (GoesOn (g.S.Shell.runs c.play_stretches.new.stage) d m offer player.resets.now) (sym ok.2.1.kept_are)
    (plain-behind d m offer player.resets.now ok.0 ok.1 plays.played ok.3.asked (g.S.Shell.runs c.play_stretches.new.stage) plays.at)))
    c.play_stretches.ensures.ok

pub returns-clause-stands : goal.returns-clause-stands
returns-clause-stands g c = IfOk-weaker c.play_stretches.result _ _
    (λ ending ok. subst (g.E.Env.stands_for c.play_stretches.new.player.env.now) (sym ok.2.1.kept_are) ok.2.1.stands)
    c.play_stretches.ensures.ok

pub returns-clause-memory : goal.returns-clause-memory
returns-clause-memory g c =
    let player = c.args.player.now in
    let m = player.map.now in
    let offer = g.E.Env.offer (g.E.Env.plan player.env.now) in
    if-err c.play_stretches.result _ _ c.play_stretches.ensures.fault (λ e fault d begun.
    (let plays = fault.4 d begun in
    within d m offer player.resets.now fault.0 fault.1 plays.played fault.3.asked (g.E.Env.stands_for c.play_stretches.new.player.env.now)
    c.args.cycles fault.2.1 plays.stable fault.3.within))

pub returns-clause-env_name : goal.returns-clause-env_name
returns-clause-env_name g c = of-either c.play_stretches.result _ _ _ c.play_stretches.ensures.ok c.play_stretches.ensures.fault
    (λ ending ok. ok.2.0.name) (λ e fault. fault.2.0.name)

pub returns-clause-cells_name : goal.returns-clause-cells_name
returns-clause-cells_name g c = of-either c.play_stretches.result _ _ _ c.play_stretches.ensures.ok c.play_stretches.ensures.fault
    (λ ending ok. ok.2.0.cells) (λ e fault. fault.2.0.cells)

pub returns-clause-plan : goal.returns-clause-plan
returns-clause-plan g c = of-either c.play_stretches.result _ _ _ c.play_stretches.ensures.ok c.play_stretches.ensures.fault
    (λ ending ok. ok.2.0.plan) (λ e fault. fault.2.0.plan)

pub returns-clause-env_channels : goal.returns-clause-env_channels
returns-clause-env_channels g c = of-either c.play_stretches.result _ _ _ c.play_stretches.ensures.ok c.play_stretches.ensures.fault
    (λ ending ok. ok.2.0.channels ∙ sym c.requires.channels) (λ e fault. fault.2.0.channels ∙ sym c.requires.channels)
