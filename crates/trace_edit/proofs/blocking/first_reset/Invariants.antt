use Rattle.std.proofs.Common.{◌≡◌, ℕ, ◌≤◌, ◌<◌, false}
use Rattle.trace_model.specs.declared.event.Kind.TheVariants.{Reset}
use Rattle.trace_edit.specs.Moved.{does_at}
use Rattle.trace_edit.proofs.blocking.first_reset.Given as goal

abbrev pub invariant-loop-s : goal.invariant-loop-s
invariant-loop-s l = (r : ℕ) → l.low ≤ r → r < l.s → does_at Reset 0 l.packets r ≡ false
