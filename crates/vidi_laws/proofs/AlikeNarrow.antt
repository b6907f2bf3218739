-- The numbers of a map that is settled for a state have at most 128 bits.
use Rattle.std.proofs.Common.{◌≡◌, ℕ, zero, suc, ◌+◌, ◌-◌, ◌<◌, ◌≤◌, ◌^◌, List, [], ◌∷◌, Some, take, slice_get, slice_index}
use Rattle.std.proofs.Common.{⊎_elim, refl, sym, subst, arith, pow_mono, pow_pos}
use Rattle.std.specs.List.{sum_by}
use Rattle.std.proofs.lemmas.Bool.{cases_lt}
use Rattle.std.proofs.lemmas.List.{get_or_past}
use Rattle.std.proofs.lemmas.List.Sums.{sum_by-cons}
use Rattle.std.proofs.lemmas.Option.{get_or_from_slice_get, slice_get_within}
use Rattle.net_design.specs.declared.design.DesignMemory.{DesignMemory}
use Rattle.net_design.specs.declared.design.Design.{Design}
use Rattle.net_design.specs.declared.values.Values.{Values}
use Rattle.net_design.specs.Last.{IsNarrow}
use Rattle.net_design.specs.Settled.{net_width, word_count, Keeps, room_length}
use Rattle.net_design.specs.Lawful.{IsLawful, IsState}
use Rattle.net_design.proofs.LawfulCode.{net_width_le}

fits-128 : (x w : ℕ) → x < 2 ^ w → w ≤ 128 → x < 2 ^ 128
fits-128 x w l h = let most : 2 ^ w ≤ 2 ^ 128 = pow_mono {i = w} {j = 128} h in omega (arith, most, l)

-- the memory that has word i, and the place of the word in it
record HasWord (ms : List DesignMemory) (i : ℕ) : Type 0 where
  number : ℕ
  memory : DesignMemory
  place : ℕ
  at : slice_get ms number ≡ Some memory
  inside : place < room_length memory
  is : sum_by room_length (take number ms) + place ≡ i

has-word : (ms : List DesignMemory) (i : ℕ) → i < sum_by room_length ms → HasWord ms i
has-word [] i l = absurd (omega (arith, l))
has-word (m ∷ ms) i l = ⊎_elim
    (λ (h : i < room_length m). record { number = zero; memory = m; place = i; at = refl; inside = h; is = omega arith })
    (λ (g : room_length m ≤ i).
    let all = sum_by-cons room_length m ms in
    let rest = has-word ms (i - room_length m) (omega (arith, l, g, all)) in
    let before = sum_by-cons room_length m (take rest.number ms) in
    let is = rest.is in
    record {
      number = suc rest.number;
      memory = rest.memory;
      place = rest.place;
      at = rest.at;
      inside = rest.inside;
      is = omega (arith, before, is, g);
    })
    (cases_lt i (room_length m))

module _ (d : Design) (law : IsLawful d) where
  word-narrow : (s : Values) → IsState d s → (i : ℕ) → slice_index s.words i < 2 ^ 128
  word-narrow s state i = ⊎_elim
      (λ (l : i < word_count d).
      let w = has-word d.memories i l in
      let there = slice_get_within d.memories w.number w.memory w.at in
      let same = get_or_from_slice_get d.memories w.number w.memory w.memory w.at in
      let wide : w.memory.width ≤ 128 = subst (λ (a : DesignMemory). a.width ≤ 128) same (law.memories w.number w.memory there).0.1 in
      let first = law.rooms w.number w.memory w.at in
      let place = w.is in
      let at : w.memory.room.first + w.place ≡ i = omega (arith, first, place) in
      let fit = state.fit w.memory w.place (w.number, there, same) w.inside in
      fits-128 (slice_index s.words i) w.memory.width
      (subst (λ (k : ℕ). slice_index s.words k < 2 ^ w.memory.width) at fit) wide)
      (λ (g : word_count d ≤ i).
      let past : slice_index s.words i ≡ 0 = get_or_past s.words i 0 (subst (λ (n : ℕ). n ≤ i) (sym state.words) g) in
      let most : 0 < 2 ^ 128 = pow_pos 128 in
      subst (λ (x : ℕ). x < 2 ^ 128) (sym past) most)
      (cases_lt i (word_count d))

  pub settled-narrow : (s v : Values) → IsState d s → Keeps d s v → IsNarrow v
  settled-narrow s v state keeps = record {
    nets = λ m. fits-128 (slice_index v.nets m) (net_width d m) (keeps.fit.each m) (net_width_le d law m);
    words = λ i. subst (λ (ws : List ℕ). slice_index ws i < 2 ^ 128) (sym keeps.words) (word-narrow s state i);
  }
