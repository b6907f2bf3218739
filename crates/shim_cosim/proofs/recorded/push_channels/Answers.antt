use Rattle.shim_cosim.proofs.Entering.{zeros-more}
use Rattle.shim_cosim.proofs.recorded.push_channels.Goals as goal

pub loop-channel-preserved : goal.loop-channel-preserved
loop-channel-preserved c =
    zeros-more c.loop-channel.pins c.push_channel.new.pins c.args.channels.now c.loop-channel.channel-index c.channel-item.result _
    c.loop-channel-test.true c.channel-item.is c.in_ok-push_channel.ensures c.loop-channel.invariant
