use Rattle.std.proofs.Common.{◌+◌, ap}
use Rattle.shim_cosim.proofs.FedInputs.{entered_more, room}
use Rattle.shim_cosim.proofs.fed_inputs.enter_feed.Goals as goal

pub enter_channel-requires-clause-room : goal.enter_channel-requires-clause-room
enter_channel-requires-clause-room c =
    room c.args.channels.now c.args.feed.now c.requires.feed c.args.pins.now c.args.first c.requires.long c.loop-c.c c.loop-c.at
    c.loop-c.pins c.loop-c.rest.now c.loop-c.invariant c.index-channels-c.result c.loop-c-test.true c.index-channels-c.is
    c.split_content.result.0.now c.split_content.ensures.front c.loop-c.auto.pins

pub loop-c-preserved : goal.loop-c-preserved
loop-c-preserved c =
    entered_more c.args.channels.now c.args.feed.now c.requires.feed c.args.pins.now c.args.first c.requires.long c.loop-c.c c.loop-c.at
    c.loop-c.pins c.loop-c.rest.now c.loop-c.invariant c.index-channels-c.result c.loop-c-test.true c.index-channels-c.is
    c.split_content.result.0.now c.split_content.ensures.front c.enter_channel.new.pins c.split_content.result.1.now _
    c.enter_channel.ensures.entered c.enter_channel.ensures.small (ap (λ k. c.loop-c.at + k) c.input_count-at.ensures)
    c.split_content.ensures.rest
