use Rattle.std.proofs.Common.{◌≡◌, take, sum_by}
use Rattle.trace_model.specs.Channel.{byte_count}
use Rattle.trace_model.proofs.length.content_len.Given as goal

abbrev pub invariant-loop-width : goal.invariant-loop-width
invariant-loop-width l = l.total ≡ sum_by byte_count (take l.width-index (l.channel.widths))
