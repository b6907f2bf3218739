use Rattle.std.proofs.Common.{◌≡◌, ◌++◌, drop}
use Rattle.std.specs.List.{flat_map}
use Rattle.net_code.specs.Targets.{place_room, plain_places}
use Rattle.net_drive.proofs.targets.rooms_named.Given as goal

abbrev pub invariant-loop-place : goal.invariant-loop-place
invariant-loop-place l =
    l.named ++ flat_map place_room (plain_places (drop l.place-index l.places)) ≡ flat_map place_room (plain_places l.places)
