use Rattle.std.proofs.Common.{◌↔◌, drop}
use Rattle.std.specs.List.{AllByRecursion}
use Rattle.net_design.specs.declared.act.Place.{Place}
use Rattle.net_lawful.specs.Rooms.{IsPlaceIn}
use Rattle.net_lawful.proofs.range.places_in.Given as goal

abbrev pub invariant-loop-place : goal.invariant-loop-place
invariant-loop-place l =
    AllByRecursion (λ (p : Place). IsPlaceIn l.design l.rooms p) (drop l.place-index l.places)
    ↔ AllByRecursion (λ (p : Place). IsPlaceIn l.design l.rooms p) l.places
