use Rattle.std.proofs.Common.{◌≡◌, take, sum_by}
use Rattle.trace_model.specs.Channel.{content_bytes}
use Rattle.trace_model.proofs.length.all_contents_len.Given as goal

abbrev pub invariant-loop-channel : goal.invariant-loop-channel
invariant-loop-channel l = l.total ≡ sum_by content_bytes (take l.channel-index l.channels)
