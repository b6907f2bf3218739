use Rattle.std.proofs.Common.{◌≡◌, ◌++◌, drop, replicate}
use Rattle.shim_cosim.specs.Recorded.{inputs_count}
use Rattle.shim_cosim.proofs.recorded.push_channels.Given as goal

abbrev pub invariant-loop-channel : goal.invariant-loop-channel
invariant-loop-channel l =
    l.pins ++ replicate (inputs_count (drop l.channel-index l.channels)) 0 ≡ l.fn.pins ++ replicate (inputs_count l.channels) 0
