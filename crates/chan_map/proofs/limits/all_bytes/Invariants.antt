use Rattle.std.proofs.Common.{◌≡◌, take}
use Rattle.std.specs.Prelude.{sum_by}
use Rattle.trace_model.specs.Channel.{content_bytes}
use Rattle.chan_map.specs.Reasons.{capped}
use Rattle.chan_map.proofs.limits.all_bytes.Given as goal

abbrev pub invariant-loop-c : goal.invariant-loop-c
invariant-loop-c l = l.total ≡ capped (sum_by content_bytes (take l.c-index l.channels))
