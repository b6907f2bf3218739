use Rattle.std.proofs.Common.{◌≡◌, drop}
use Rattle.run_model.specs.Building.{number_for}
use Rattle.run_reference.proofs.pins.number_for.Given as goal

abbrev pub invariant-loop-entry : goal.invariant-loop-entry
invariant-loop-entry l = number_for (drop l.entry-index l.entries) l.place ≡ number_for l.entries l.place
