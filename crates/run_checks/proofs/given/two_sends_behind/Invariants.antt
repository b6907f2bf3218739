use Rattle.std.proofs.Common.{◌≡◌, All, length}
use Rattle.run_stage.specs.Given.{FitsGates}
use Rattle.sample_designs.specs.Stage.{stage_channels}
use Rattle.run_checks.proofs.given.two_sends_behind.Given as goal

abbrev pub invariant-loop-cycle : goal.invariant-loop-cycle
invariant-loop-cycle l = record { count : length l.list ≡ l.cycle; fit : All (FitsGates stage_channels) l.list }
