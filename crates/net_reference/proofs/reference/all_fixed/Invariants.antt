use Rattle.std.proofs.Common.{◌≡◌, ℕ, ◌<◌, slice_index_or}
use Rattle.net_design.specs.declared.design.Driver.{Driver}
use Rattle.net_design.specs.Updates.{run}
use Rattle.net_reference.proofs.reference.all_fixed.Given as goal

abbrev pub invariant-loop-driver : goal.invariant-loop-driver
invariant-loop-driver l = (k : ℕ) (d : Driver) → k < l.driver-index → run (slice_index_or l.driver-items k d).code.acts l.values ≡ l.values
