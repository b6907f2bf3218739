use Rattle.std.proofs.Common.{◌≡◌, ◌++◌, drop}
use Rattle.net_code.specs.Targets.{plain_places}
use Rattle.net_drive.proofs.targets.add_places.Given as goal

abbrev pub invariant-loop-place : goal.invariant-loop-place
invariant-loop-place l = plain_places l.out ++ drop l.place-index l.places ≡ plain_places l.initial.out ++ l.places
