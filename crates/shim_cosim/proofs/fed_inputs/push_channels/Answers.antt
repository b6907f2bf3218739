use Rattle.std.proofs.Common.{length, refl}
use Rattle.shim_cosim.proofs.FedInputs.{zeros_for}
use Rattle.shim_cosim.specs.Rewrapped.{input_count}
use Rattle.shim_cosim.proofs.fed_inputs.push_channels.Goals as goal

pub loop-channel-preserved : goal.loop-channel-preserved
loop-channel-preserved c =
    zeros_for (input_count (length c.args.channels.now)) c.args.channels.now c.loop-channel.channel-index _ c.channel-item.result
    c.args.pins.now c.loop-channel.pins c.push_channel.new.pins c.loop-channel-test.true c.channel-item.is refl c.loop-channel.invariant
    c.in_ok-push_channel.ensures
