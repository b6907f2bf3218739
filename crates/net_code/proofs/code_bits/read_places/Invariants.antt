use Rattle.std.proofs.Common.{◌≡◌, ℕ, ◌&&◌, ◌||◌, not, drop}
use Rattle.std.specs.List.{AllByRecursion}
use Rattle.net_design.specs.declared.act.Place.{Place}
use Rattle.net_design.specs.Sized.{IsSizedPlace}
use Rattle.net_design.specs.Bits.{target_reads}
use Rattle.net_code.specs.BitMap.{in_map}
use Rattle.net_code.proofs.code_bits.read_places.Given as goal

abbrev pub invariant-loop-place : goal.invariant-loop-place
invariant-loop-place l = record {
  same : (m k : ℕ) → (in_map l.out m k || (target_reads (drop l.place-index l.places) m k && not (in_map l.known m k)))
      ≡ (in_map l.initial.out m k || (target_reads l.places m k && not (in_map l.known m k)));
  sized : AllByRecursion (λ (p : Place). IsSizedPlace p) (drop l.place-index l.places);
}
