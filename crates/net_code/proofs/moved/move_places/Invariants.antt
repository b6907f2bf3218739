use Rattle.std.proofs.Common.{◌≡◌, ◌^◌, ◌++◌, map, take, drop}
use Rattle.std.specs.List.{AllByRecursion}
use Rattle.net_design.specs.declared.act.Place.{Place}
use Rattle.net_design.specs.Sized.{IsPlace, IsShort, IsCountable}
use Rattle.net_code.specs.Moved.{moved_place}
use Rattle.net_code.proofs.moved.move_places.Given as goal

abbrev pub invariant-loop-place : goal.invariant-loop-place
invariant-loop-place l = record {
  same : l.place-items ≡ map (moved_place l.base.net l.base.word) (take l.place-index l.fn.places) ++ drop l.place-index l.fn.places;
  near : AllByRecursion (λ (p : Place). IsPlace (IsShort (2 ^ 32)) (IsCountable (2 ^ 32)) p) (drop l.place-index l.place-items);
}
