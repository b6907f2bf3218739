use Rattle.std.proofs.Common.{◌≡◌, ◌++◌, All, drop}
use Rattle.std.specs.List.{AllByRecursion}
use Rattle.net_design.specs.vidi_bits.Number.{IsWidth}
use Rattle.net_design.specs.Sized.{IsSizedPlace}
use Rattle.net_design.specs.declared.act.Place.{Place}
use Rattle.net_design.specs.declared.values.Update.{Update}
use Rattle.net_design.specs.Updates.{target_width, target_updates}
use Rattle.net_reference.proofs.statement.target_updates.Given as goal

abbrev pub invariant-loop-place : goal.invariant-loop-place
invariant-loop-place l = record {
  same : l.out ++ target_updates (drop l.place-index l.places) l.number l.values ≡ target_updates l.places l.number l.values;
  rest : l.rest ≡ target_width (drop l.place-index l.places);
  sized : All (λ (u : Update). IsWidth u.width) l.out;
  places : AllByRecursion (λ (p : Place). IsSizedPlace p) (drop l.place-index l.places);
}
