use Rattle.std.proofs.Common.{◌∙◌, arith}
use Rattle.replay_run.proofs.trace_model_lemmas.RowLemmas.{room-left, rest-more}
use Rattle.replay_run.specs.chan_monitor.Entering.{offered}
use Rattle.replay_run.proofs.chan_monitor_lemmas.Writing.{split-is}
use Rattle.shim_cosim.specs.Recorded.{input_count}
use Rattle.shim_cosim.proofs.Entering.{counted-within, enter-more}
use Rattle.shim_cosim.proofs.recorded.enter.Goals as goal

pub split_at-requires : goal.split_at-requires
split_at-requires c =
    room-left c.args.channels.now _ _ c.loop-c.c _ c.index-channels-c.result c.requires.offers c.loop-c-test.true c.index-channels-c.is
    c.loop-c.invariant.rest c.len.ensures

pub enter_channel-requires-clause-room : goal.enter_channel-requires-clause-room
enter_channel-requires-clause-room c =
    let w = counted-within input_count c.args.channels.now c.loop-c.c c.index-channels-c.result c.loop-c-test.true c.index-channels-c.is in
    let p = c.loop-c.invariant.entered.place in
    let long = c.loop-c.auto.pins in
    let was = c.requires.long in
    omega (arith, w, p, long, was)

pub enter_channel-requires-clause-content : goal.enter_channel-requires-clause-content
enter_channel-requires-clause-content c = c.split_at.ensures.front_len ∙ c.len.ensures

pub behind-at-requires : goal.behind-at-requires
behind-at-requires c =
    let w = counted-within input_count c.args.channels.now c.loop-c.c c.index-channels-c.result c.loop-c-test.true c.index-channels-c.is in
    let p = c.loop-c.invariant.entered.place in
    let long = c.loop-c.auto.pins in
    let was = c.requires.long in
    omega (arith, w, p, long, was)

pub loop-c-preserved : goal.loop-c-preserved
loop-c-preserved c = record {
  rest = rest-more c.args.channels.now _ _ _ c.loop-c.c _ c.index-channels-c.result c.loop-c-test.true c.index-channels-c.is
      c.loop-c.invariant.rest c.len.ensures c.split_at.ensures.back;
  entered =
      (let w = counted-within input_count c.args.channels.now c.loop-c.c c.index-channels-c.result c.loop-c-test.true c.index-channels-c.is in
      let p = c.loop-c.invariant.entered.place in
      let long = c.loop-c.auto.pins in
      let was = c.requires.long in
      enter-more c.args.channels.now (offered c.args.gates c.args.offers.now) c.args.first c.args.pins.now c.loop-c.pins c.enter_channel.new.pins
      c.split_at.result.0.now c.loop-c.c c.loop-c.at _ c.index-channels-c.result c.loop-c-test.true c.index-channels-c.is
      (split-is c.args.channels.now c.args.offers.now.contents c.loop-c.rest.now _ c.loop-c.c c.len.result c.index-channels-c.result
      c.loop-c-test.true c.index-channels-c.is c.loop-c.invariant.rest c.len.ensures c.split_at.ensures.front)
      (c.split_at.ensures.front_len ∙ c.len.ensures) (omega (arith, w, p, long, was)) c.enter_channel.ensures
      c.behind-at.ensures c.loop-c.invariant.entered);
}
