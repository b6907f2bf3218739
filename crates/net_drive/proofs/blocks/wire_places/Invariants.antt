use Rattle.std.proofs.Common.{◌≡◌, ◌++◌, drop}
use Rattle.std.specs.List.{flat_map}
use Rattle.net_code.specs.Targets.{plain_places}
use Rattle.net_drive.specs.Drive.{driver_places}
use Rattle.net_drive.proofs.blocks.wire_places.Given as goal

abbrev pub invariant-loop-driver : goal.invariant-loop-driver
invariant-loop-driver l =
    plain_places l.places ++ flat_map driver_places (drop l.driver-index l.drivers) ≡ flat_map driver_places l.drivers
