use Rattle.std.proofs.Common.{◌≡◌, map, take}
use Rattle.vec_clock.specs.trace_model.Channel.{content_bytes}
use Rattle.trace_code.proofs.walk.sizes_of.Given as goal

abbrev pub invariant-loop-channel : goal.invariant-loop-channel
invariant-loop-channel l = l.sizes.items ≡ map content_bytes (take l.channel-index l.channels)
