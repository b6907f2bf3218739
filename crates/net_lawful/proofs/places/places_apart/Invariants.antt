use Rattle.std.proofs.Common.{◌↔◌, drop}
use Rattle.std.specs.List.{AllByRecursion}
use Rattle.net_design.specs.declared.act.Place.{Place}
use Rattle.net_design.specs.Sized.{IsSizedPlace}
use Rattle.net_design.specs.Bits.{Apart}
use Rattle.net_lawful.proofs.PlaceLaws.{IsLeft}
use Rattle.net_lawful.proofs.places.places_apart.Given as goal

abbrev pub invariant-loop-place : goal.invariant-loop-place
invariant-loop-place l = record {
  sized : AllByRecursion (λ (p : Place). IsSizedPlace p) (drop l.place-index l.places);
  left : IsLeft l.seen (drop l.place-index l.places) ↔ Apart l.places;
}
