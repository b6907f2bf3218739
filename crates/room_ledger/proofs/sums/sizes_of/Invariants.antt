use Rattle.std.proofs.Common.{◌≡◌, take, map}
use Rattle.trace_model.specs.Channel.{content_bytes}
use Rattle.room_ledger.proofs.sums.sizes_of.Given as goal

abbrev pub invariant-loop-channel : goal.invariant-loop-channel
invariant-loop-channel l = l.sizes.items ≡ map content_bytes (take l.channel-index l.channels)
