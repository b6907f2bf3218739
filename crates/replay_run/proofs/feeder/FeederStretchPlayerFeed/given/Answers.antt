use Rattle.std.proofs.Common.{length, subst}
use Rattle.trace_code.specs.trace_model.Epoch.{epoch}
use Rattle.run_stage.specs.chan_map.declared.pins.Map.{Map}
use Rattle.run_stage.specs.chan_replayer.Feed.{IsFeed}
use Rattle.run_stage.specs.run_model.Replay.{done}
use Rattle.run_stage.proofs.chan_replayer_lemmas.Offering.{offered}
use Rattle.replay_run.proofs.Playing.{at-trace}
use Rattle.replay_run.proofs.feeder.FeederStretchPlayerFeed.given.Goals as goal

pub returns-clause-ruled : goal.returns-clause-ruled
returns-clause-ruled c first past here row stands shown marked t encodes =
    let self = c.args.self.now in
    let at = at-trace first self past here stands t encodes in
    let packets = epoch (length past) t.packets in
    let fed = subst (λ (m : Map). IsFeed m.channels packets (done here) self.feed) stands.map at.fed in
    (offered first.map.now.channels packets (done here) row self.feed fed shown.fed, shown.gates_are, marked)
