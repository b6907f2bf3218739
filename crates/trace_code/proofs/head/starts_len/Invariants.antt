use Rattle.std.proofs.Common.{◌≡◌, ◌+◌}
use Rattle.vec_clock.specs.trace_model.Length.{sizes_under}
use Rattle.trace_code.proofs.head.starts_len.Given as goal

abbrev pub invariant-starts : goal.invariant-starts
invariant-starts l = l.total + sizes_under l.left l.sizes ≡ sizes_under l.starts l.sizes

abbrev pub decreases-starts : goal.decreases-starts
decreases-starts l = l.left
