use Rattle.std.proofs.Common.{◌≡◌, ℕ, true}
use Rattle.trace_code.specs.vidi_bits.Number.{has}
use Rattle.replay_run.proofs.feeding.beside.Given as goal

abbrev pub invariant-left : goal.invariant-left
invariant-left l = (d : ℕ) → has l.left d ≡ true → has l.fed d ≡ true

abbrev pub decreases-left : goal.decreases-left
decreases-left l = l.left
