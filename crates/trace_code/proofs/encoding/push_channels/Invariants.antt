use Rattle.std.proofs.Common.{◌≡◌, ◌++◌, take}
use Rattle.std.specs.List.{flat_map}
use Rattle.trace_code.specs.Encoding.{channel_bytes}
use Rattle.trace_code.proofs.encoding.push_channels.Given as goal

abbrev pub invariant-loop-channel : goal.invariant-loop-channel
invariant-loop-channel l = l.out.items ≡ l.fn.out.items ++ flat_map channel_bytes (take l.channel-index l.channels)
