use Rattle.std.proofs.Common.{drop}
use Rattle.std.specs.List.{AllByRecursion}
use Rattle.net_design.specs.declared.act.Place.{Place}
use Rattle.net_design.specs.Sized.{IsSizedPlace}
use Rattle.net_design.specs.Bits.{target_adds}
use Rattle.net_code.proofs.FoundLaws.{LearnsRest}
use Rattle.net_code.proofs.code_bits.learn_places.Given as goal

abbrev pub invariant-loop-place : goal.invariant-loop-place
invariant-loop-place l = record {
  rest : LearnsRest (target_adds l.places) (target_adds (drop l.place-index l.places)) l.initial.known l.known l.initial.fresh l.fresh;
  sized : AllByRecursion (λ (p : Place). IsSizedPlace p) (drop l.place-index l.places);
}
