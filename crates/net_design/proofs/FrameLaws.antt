-- Bits that code doesn't write stay.
use Rattle.std.proofs.Common.{◌≡◌, ◌≢◌, ℕ, ◌+◌, ◌-◌, ◌/◌, ◌^◌, ◌<◌, ◌≤◌, min, zero, suc, ◌==◌, ◌&&◌, Bool, true, false, List, [], ◌∷◌}
use Rattle.std.proofs.Common.{◌++◌, ◌⊎◌, inl, inr, if◌then◌else◌, nat_le, nat_lt, slice_index, slice_set, length, ⊎_elim, refl, ap, subst}
use Rattle.std.proofs.Common.{◌∙◌, arith}
use Rattle.std.specs.Int.{bit_at}
use Rattle.std.specs.List.{list_any}
use Rattle.std.proofs.lemmas.Bool.{cases_lt, or_from, eq-eqb, leb-true, le-leb, ltb-true, lt-ltb, both_ways, false_from_ne_true, and_parts}
use Rattle.std.proofs.lemmas.Bool.{and_from, or_parts}
use Rattle.std.proofs.lemmas.List.{get_or-set_same, get_or-set_other}
use Rattle.std.proofs.lemmas.List.Folds.{list_any-append}
use Rattle.vidi_bits.proofs.BitLemmas.{bit_at-put_below, bit_at-put_above}
use Rattle.net_design.specs.declared.act.Place.{Place}
use Rattle.net_design.specs.declared.act.Place.TheVariants.{Bits, BitsFrom, Word, WordFrom}
use Rattle.net_design.specs.declared.act.Act.{Act, Set, Read, Branch', Row_of-Act, end_of-Act, more_of-Act, Row_of-Guard, end_of-Guard}
use Rattle.net_design.specs.declared.act.Act.{more_of-Guard}
use Rattle.net_design.specs.declared.act.Timing.{Timing}
use Rattle.net_design.specs.declared.values.Target.{Target}
use Rattle.net_design.specs.declared.values.Target.TheVariants.{Net, Word as WordTarget}
use Rattle.net_design.specs.declared.values.Update.{Update}
use Rattle.net_design.specs.declared.values.Values.{Values}
use Rattle.vidi_bits.specs.Number.{put_of}
use Rattle.net_design.specs.Value.{value}
use Rattle.net_design.specs.Updates.{written_to, apply, place_updates, target_width, target_updates, seen, updates, guard_row, act_row}
use Rattle.net_design.specs.Updates.{block_updates}
use Rattle.net_design.specs.Bits.{place_writes, target_writes, writes, writes_guards, writes_row, block_writes}

-- an update changes bit k of net m
abbrev pub touches_at : Target → Update → ℕ → ℕ → Bool
touches_at (Net n) u m k = (n == m) && (nat_le u.low k && nat_lt k (u.low + u.width))
touches_at (WordTarget i) u m k = false

abbrev pub touched : List Update → ℕ → ℕ → Bool
touched us m k = list_any (λ (u : Update). touches_at u.target u m k) us

either_way : (b : Bool) (xs ys : List Update) (m k : ℕ) → touched xs m k ≡ false → touched ys m k ≡ false
    → touched (if b then xs else ys) m k ≡ false
either_way true xs ys m k h g = h
either_way false xs ys m k h g = g

none_or : (b : Bool) (xs : List Update) (m k : ℕ) → touched xs m k ≡ false → touched (if b then [] else xs) m k ≡ false
none_or true xs m k h = refl
none_or false xs m k h = h

joined : (xs ys : List Update) (m k : ℕ) → touched xs m k ≡ false → touched ys m k ≡ false → touched (xs ++ ys) m k ≡ false
joined xs ys m k h g = list_any-append (λ (u : Update). touches_at u.target u m k) xs ys ∙ or_from _ _ h g

inner : (n m k low size i w : ℕ) → ((n == m) && (nat_le low k && nat_lt k (low + size))) ≡ false
    → ((n == m) && (nat_le (low + i) k && nat_lt k (low + i + min w (size - i)))) ≡ false
inner n m k low size i w h = false_from_ne_true _ (λ t.
    let p = and_parts _ _ t in
    let q = and_parts _ _ p.1 in
    let above : low + i ≤ k = leb-true _ _ q.0 in
    let below : k < low + i + min w (size - i) = ltb-true _ _ q.1 in
    both_ways _ h (and_from _ _ p.0 (and_from _ _ (le-leb low k (omega arith)) (lt-ltb k (low + size) (omega arith)))))

place_touch : (p : Place) (x : ℕ) (v : Values) (m k : ℕ) → place_writes p m k ≡ false → touched (place_updates p x v) m k ≡ false
place_touch (Bits s n) x v m k h = none_or (s.width == 0) _ m k (or_from _ _ h refl)
place_touch (BitsFrom s i w) x v m k h =
    either_way (nat_lt (value i v) s.width) _ _ m k (or_from _ _ (inner s.net m k s.low s.width (value i v) w h) refl) refl
place_touch (Word r i low w n) x v m k h = either_way (nat_lt (value i v) r.length) _ _ m k (none_or (w == 0) _ m k refl) refl
place_touch (WordFrom r i size j w) x v m k h =
    either_way (nat_lt (value i v) r.length) _ _ m k (either_way (nat_lt (value j v) size) _ _ m k refl refl) refl

pub target_touch : (ps : List Place) (x : ℕ) (v : Values) (m k : ℕ) → target_writes ps m k ≡ false
    → touched (target_updates ps x v) m k ≡ false
target_touch [] x v m k h = refl
target_touch (p ∷ ps) x v m k h =
    let t = or_parts (place_writes p m k) (target_writes ps m k) h in
    joined (place_updates p (x / 2 ^ target_width ps) v) (target_updates ps x v) m k (place_touch p (x / 2 ^ target_width ps) v m k t.0)
    (target_touch ps x v m k t.1)

mutual
  act_touch : (t : Timing) (a : Act) (v : Values) (m k : ℕ) → writes a m k ≡ false → touched (updates t a v) m k ≡ false
  act_touch t (Set target e) v m k h = target_touch target (value e v) v m k h
  act_touch t (Read e) v m k h = refl
  act_touch t (Branch' n guards l otherwise) v m k h =
      let parts = or_parts (writes_guards guards m k) (writes_row otherwise m k) h in
      guards_touch t guards (act_row t otherwise v) v m k parts.0 (row_touch t otherwise v m k parts.1)

  guards_touch : {n : _} → (t : Timing) (row : Row_of-Guard n) (us : List Update) (v : Values) (m k : ℕ) → writes_guards row m k ≡ false
      → touched us m k ≡ false
      → touched (guard_row t row us v) m k ≡ false
  guards_touch t end_of-Guard us v m k h g = g
  guards_touch t (more_of-Guard c l body rest) us v m k h g =
      let parts = or_parts (writes_row body m k) (writes_guards rest m k) h in
      either_way (value c v == 0) (guard_row t rest us v) (act_row t body v) m k (guards_touch t rest us v m k parts.1 g)
      (row_touch t body v m k parts.0)

  row_touch : {n : _} → (t : Timing) (row : Row_of-Act n) (v : Values) (m k : ℕ) → writes_row row m k ≡ false
      → touched (act_row t row v) m k ≡ false
  row_touch t end_of-Act v m k h = refl
  row_touch t (more_of-Act a rest) v m k h =
      let parts = or_parts (writes a m k) (writes_row rest m k) h in
      joined (updates t a v) (act_row t rest (seen t (updates t a v) v)) m k (act_touch t a v m k parts.0)
      (row_touch t rest (seen t (updates t a v) v) m k parts.1)

pub block_touch : (t : Timing) (acts : List Act) (v : Values) (m k : ℕ) → block_writes acts m k ≡ false
    → touched (block_updates t acts v) m k ≡ false
block_touch t [] v m k h = refl
block_touch t (a ∷ rest) v m k h =
    let parts = or_parts (writes a m k) (block_writes rest m k) h in
    joined (updates t a v) (block_updates t rest (seen t (updates t a v) v)) m k (act_touch t a v m k parts.0)
    (block_touch t rest (seen t (updates t a v) v) m k parts.1)

-- ---- what isn't touched stays
pub set_past : (xs : List ℕ) (i y : ℕ) → length xs ≤ i → slice_set xs i y ≡ xs
set_past [] i y h = refl
set_past (x ∷ xs) zero y h = absurd (omega arith)
set_past (x ∷ xs) (suc i) y h = ap (λ r. x ∷ r) (set_past xs i y (omega arith))

outside : (low w k : ℕ) → (nat_le low k && nat_lt k (low + w)) ≡ false → (k < low) ⊎ (low + w ≤ k)
outside low w k h = ⊎_elim
    (λ (below : k < low). inl below)
    (λ (from : low ≤ k). ⊎_elim
    (λ (inside : k < low + w). absurd (both_ways _ h (and_from _ _ (le-leb low k from) (lt-ltb k (low + w) inside))))
    (λ (above : low + w ≤ k). inr above)
    (cases_lt k (low + w)))
    (cases_lt k low)

put_outside : (x low w y k : ℕ) → k < 128 → (nat_le low k && nat_lt k (low + w)) ≡ false → bit_at (put_of x low w y) k ≡ bit_at x k
put_outside x low w y k l h = ⊎_elim
    (λ (below : k < low). bit_at-put_below x low w y k l below)
    (λ (above : low + w ≤ k). bit_at-put_above x low w y k l above)
    (outside low w k h)

same_net : (xs : List ℕ) (n low w y k : ℕ) → k < 128 → (nat_le low k && nat_lt k (low + w)) ≡ false
    → bit_at (slice_index (slice_set xs n (put_of (slice_index xs n) low w y)) n) k ≡ bit_at (slice_index xs n) k
same_net xs n low w y k l h = ⊎_elim
    (λ (there : n < length xs). ap (λ z. bit_at z k) (get_or-set_same xs n (put_of (slice_index xs n) low w y) 0 there)
    ∙ put_outside (slice_index xs n) low w y k l h)
    (λ (past : length xs ≤ n). ap (λ zs. bit_at (slice_index zs n) k) (set_past xs n (put_of (slice_index xs n) low w y) past))
    (cases_lt n (length xs))

pub same_or_other : (n m : ℕ) → (n ≡ m) ⊎ (m ≢ n)
same_or_other n m = ⊎_elim
    (λ (l : n < m). inr (λ e. omega arith))
    (λ (g : m ≤ n). ⊎_elim (λ (h : m < n). inr (λ e. omega arith)) (λ (h : n ≤ m). inl (omega arith)) (cases_lt m n))
    (cases_lt n m)

pub written_stays : (target : Target) (u : Update) (v : Values) (m k : ℕ) → k < 128 → touches_at target u m k ≡ false
    → bit_at (slice_index (written_to target u v).nets m) k ≡ bit_at (slice_index v.nets m) k
written_stays (Net n) u v m k l h = ⊎_elim
    (λ (e : n ≡ m).
    let range : (nat_le u.low k && nat_lt k (u.low + u.width)) ≡ false = false_from_ne_true _ (λ t. both_ways _ h (and_from _ _ (eq-eqb n m e) t)) in
    subst (λ j. bit_at (slice_index (slice_set v.nets n (put_of (slice_index v.nets n) u.low u.width u.number)) j) k ≡ bit_at
    (slice_index v.nets j) k) e
    (same_net v.nets n u.low u.width u.number k l range))
    (λ (d : m ≢ n). ap (λ x. bit_at x k) (get_or-set_other v.nets n m (put_of (slice_index v.nets n) u.low u.width u.number) 0 d))
    (same_or_other n m)
written_stays (WordTarget i) u v m k l h = refl

pub applied_stays : (us : List Update) (v : Values) (m k : ℕ) → k < 128 → touched us m k ≡ false
    → bit_at (slice_index (apply us v).nets m) k ≡ bit_at (slice_index v.nets m) k
applied_stays [] v m k l h = refl
applied_stays (u ∷ us) v m k l h =
    let t = or_parts (touches_at u.target u m k) (touched us m k) h in
    applied_stays us (written_to u.target u v) m k l t.1 ∙ written_stays u.target u v m k l t.0

-- bits that a block doesn't write stay, whatever it saw
pub unwritten : (t : Timing) (acts : List Act) (v s : Values) (m k : ℕ) → k < 128 → block_writes acts m k ≡ false
    → bit_at (slice_index (apply (block_updates t acts v) s).nets m) k ≡ bit_at (slice_index s.nets m) k
unwritten t acts v s m k l h = applied_stays (block_updates t acts v) s m k l (block_touch t acts v m k h)
