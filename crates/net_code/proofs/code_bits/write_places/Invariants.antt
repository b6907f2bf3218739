use Rattle.std.proofs.Common.{◌≡◌, ℕ, ◌||◌, drop}
use Rattle.std.specs.List.{AllByRecursion}
use Rattle.net_design.specs.declared.act.Place.{Place}
use Rattle.net_design.specs.Sized.{IsSizedPlace}
use Rattle.net_design.specs.Bits.{target_writes}
use Rattle.net_code.specs.BitMap.{in_map}
use Rattle.net_code.proofs.code_bits.write_places.Given as goal

abbrev pub invariant-loop-place : goal.invariant-loop-place
invariant-loop-place l = record {
  same : (m k : ℕ) → (in_map l.out m k || target_writes (drop l.place-index l.places) m k) ≡
      (in_map l.initial.out m k || target_writes l.places m k);
  sized : AllByRecursion (λ (p : Place). IsSizedPlace p) (drop l.place-index l.places);
}
