use Rattle.std.proofs.Common.{◌↔◌, drop}
use Rattle.std.specs.List.{AllByRecursion}
use Rattle.net_design.specs.declared.act.Place.{Place}
use Rattle.net_design.specs.Sized.{IsPlace, IsShort, IsCountable}
use Rattle.net_code.proofs.sized.places_sized.Given as goal

abbrev pub invariant-loop-place : goal.invariant-loop-place
invariant-loop-place l =
    AllByRecursion (λ (p : Place). IsPlace (IsShort l.limit) (IsCountable l.limit) p) (drop l.place-index l.places)
    ↔ AllByRecursion (λ (p : Place). IsPlace (IsShort l.limit) (IsCountable l.limit) p) l.places
