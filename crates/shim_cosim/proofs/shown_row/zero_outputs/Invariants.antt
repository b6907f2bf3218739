use Rattle.std.proofs.Common.{◌≡◌, replicate, take}
use Rattle.std.specs.List.{sum_by}
use Rattle.shim_cosim.specs.Rewrapped.{output_count}
use Rattle.shim_cosim.proofs.shown_row.zero_outputs.Given as goal

abbrev pub invariant-loop-channel : goal.invariant-loop-channel
invariant-loop-channel l = l.numbers ≡ replicate (sum_by output_count (take l.channel-index l.channels)) 0
