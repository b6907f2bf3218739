use Rattle.std.proofs.Common.{[], refl}
use Rattle.shim_cosim.proofs.FedInputs.{zeros_for}
use Rattle.shim_cosim.specs.Rewrapped.{output_count}
use Rattle.shim_cosim.proofs.shown_row.zero_outputs.Goals as goal

pub loop-channel-preserved : goal.loop-channel-preserved
loop-channel-preserved c =
    zeros_for output_count c.args.channels.now c.loop-channel.channel-index _ c.channel-item.result [] c.loop-channel.numbers
    c.push_channel.new.numbers c.loop-channel-test.true c.channel-item.is refl c.loop-channel.invariant c.in_ok-push_channel.ensures
