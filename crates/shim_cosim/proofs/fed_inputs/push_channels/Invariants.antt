use Rattle.std.proofs.Common.{◌≡◌, ◌++◌, length, replicate, take}
use Rattle.std.specs.List.{sum_by}
use Rattle.shim_cosim.specs.Rewrapped.{input_count}
use Rattle.shim_cosim.proofs.fed_inputs.push_channels.Given as goal

abbrev pub invariant-loop-channel : goal.invariant-loop-channel
invariant-loop-channel l = l.pins ≡ l.fn.pins ++ replicate (sum_by (input_count (length l.channels)) (take l.channel-index l.channels)) 0
