use Rattle.std.proofs.Common.{ℕ, ◌<◌, slice_index_or}
use Rattle.net_design.specs.declared.design.Driver.{Driver}
use Rattle.net_design.specs.Lawful.{IsDriver}
use Rattle.net_lawful.proofs.code.are_drivers.Given as goal

abbrev pub invariant-loop-driver : goal.invariant-loop-driver
invariant-loop-driver l = (k : ℕ) (x : Driver) → k < l.driver-index → IsDriver l.design (slice_index_or l.driver-items k x)
