use Rattle.std.proofs.Common.{◌≡◌, ℕ, true, length, ap, refl, subst, ◌∙◌}
use Rattle.std.specs.Prelude.{◌↔◌}
use Rattle.run_stage.specs.run_model.Replay.{done}
use Rattle.replay_run.specs.Ended.{HasEndedIn}
use Rattle.replay_run.proofs.Playing.{at-trace, ended-now, some-stretch}
use Rattle.replay_run.proofs.feeder.FeederStretchPlayerFeed.is_done.Goals as goal

pub returns : goal.returns
returns c first past here stands ruled last t encodes =
    let self = c.args.self.now in
    let m = first.map.now in
    let at = at-trace first self past here stands t encodes in
    let says = ended-now m t.packets past here c.args.last.now (some-stretch first m refl t encodes past here ruled) ruled.stable.last last
    self.cursors.epoch at.epoch_is c.has_ended.result (length t.channels) (c.has_ended.ensures t (done here) at.behind) in
    subst (λ (n : ℕ). (c.has_ended.result ≡ true) ↔ HasEndedIn n t.packets past here) (ap length at.same ∙ ap (λ (b : _). length b.channels) stands.map) says
