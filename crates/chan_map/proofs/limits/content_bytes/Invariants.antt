use Rattle.std.proofs.Common.{◌≡◌, take}
use Rattle.std.specs.Prelude.{sum_by}
use Rattle.trace_model.specs.Channel.{byte_count}
use Rattle.chan_map.specs.Reasons.{capped}
use Rattle.chan_map.proofs.limits.content_bytes.Given as goal

abbrev pub invariant-loop-width : goal.invariant-loop-width
invariant-loop-width l = l.total ≡ capped (sum_by byte_count (take l.width-index l.c.widths))
