-- Stretches that begin others.
use Rattle.std.proofs.Common.{◌≡◌, ◌⊎◌, ℕ, zero, suc, ◌+◌, ◌<◌, ◌≤◌, List, [], ◌∷◌, ◌++◌, Some, All, length, take, slice_get, inl, inr, ⊎_elim}
use Rattle.std.proofs.Common.{refl, ap, sym, subst, ◌∙◌, arith}
use Rattle.std.proofs.lemmas.List.{get_or_push, length_push, take_all}
use Rattle.std.proofs.lemmas.List.Elements.{All-cons, All-head, All-nil, All-tail}
use Rattle.trace_code.specs.trace_model.declared.row.Row.{Row}
use Rattle.trace_code.proofs.trace_model_lemmas.CountingLemmas.{take-suc_get}
use Rattle.run_stage.specs.run_model.Stretches.{AreStretches, and_stretch, row_count}
use Rattle.run_stage.specs.Stretching.{IsAsked}
use Rattle.run_stage.proofs.run_model_lemmas.Unstable.{row-at}
use Rattle.run_laws.proofs.Chaining.{IsFront, count-cons, count-one}
use Rattle.run_stage.proofs.Stretching.{lone-row}

-- ---- each but the first has a row

abbrev pub AreSome : List (List Row) → Type 0
AreSome [] = Unit {0}
AreSome (s ∷ ss) = All (λ (rows : List Row). 0 < length rows) ss

abbrev Some-row : List Row → Type 0
Some-row rows = 0 < length rows

pub some-of : {X : Type 0} (Is Turns : X → List Row → Type 0) (next : X → List Row → X) (x : X) (ss : List (List Row))
    → AreStretches Is Turns next x ss → AreSome ss
some-of Is Turns next x [] are = absurd are
some-of Is Turns next x (s ∷ []) are = All-nil Some-row
some-of Is Turns next x (s ∷ t ∷ ss) are = All-cons Some-row t ss are.1 (some-of Is Turns next (next x s) (t ∷ ss) are.2)

rest-some : (ss : List (List Row)) → All Some-row ss → AreSome ss
rest-some [] all = tt
rest-some (s ∷ ss) all = All-tail Some-row s ss all

-- where it can be asked whether a player is done
pub asked : (past : List (List Row)) (here : List Row) → AreSome (and_stretch past here) → IsAsked past (length here)
asked [] here some = inl refl
asked (s ∷ past) here some = inr (subst Some-row (get_or_push past here here (length past) refl)
    (some (length past) here (let l = length_push past here in omega (arith, l))))

-- ---- stretches with one row more
pub record Extends (past : List (List Row)) (here : List Row) (ss : List (List Row)) : Type 0 where
  pub row : Row
  pub how : (ss ≡ and_stretch past (here ++ row ∷ [])) ⊎ (ss ≡ and_stretch (and_stretch past here) (row ∷ []))

behind : (s t : List Row) (past : List (List Row)) (here : List Row) (ss : List (List Row)) → s ≡ t → Extends past here ss
    → Extends (s ∷ past) here (t ∷ ss)
behind s t past here ss e x = record {
  row = x.row;
  how = ⊎_elim
      (λ (h : ss ≡ and_stretch past (here ++ x.row ∷ [])). inl (ap (λ r. r ∷ ss) (sym e) ∙ ap (λ rs. s ∷ rs) h))
      (λ (h : ss ≡ and_stretch (and_stretch past here) (x.row ∷ [])). inr (ap (λ r. r ∷ ss) (sym e) ∙ ap (λ rs. s ∷ rs) h))
      x.how;
}

one-longer : (here t : List Row) → here ≡ take (length here) t → length t ≡ length here + 1 → (row : Row) × (t ≡ here ++ row ∷ [])
one-longer here t e n =
    let r = row-at t (length here) (omega (arith, n)) in (
      r.0,
      sym (take_all (suc (length here)) t (omega (arith, n))) ∙ take-suc_get t (length here) r.0 r.1 ∙ ap (λ rs. rs ++ r.0 ∷ []) (sym e),
    )

pub extends : (past : List (List Row)) (here : List Row) (ss : List (List Row)) → IsFront (and_stretch past here) ss → AreSome ss
    → row_count ss ≡ row_count (and_stretch past here) + 1 → Extends past here ss
extends [] here [] f some n = absurd f
extends [] here (t ∷ []) f some n =
    let p = count-one t in
    let q = count-one here in
    let w = one-longer here t f.1 (omega (arith, n, p, q)) in
    record { row = w.0; how = inl (ap (λ r. r ∷ []) w.1) }
extends [] here (t ∷ u ∷ []) f some n =
    let p = count-cons t (u ∷ []) in
    let q = count-one here in
    let r = count-one u in
    let l = All-head Some-row u [] some in
    let m = f.0 in
    let w = lone-row u (omega (arith, n, p, q, r, l, m)) in
    let same : here ≡ t = f.1 ∙ take_all (length here) t (omega (arith, n, p, q, r, l)) in
    record { row = w.0; how = inr (ap (λ a. a ∷ u ∷ []) (sym same) ∙ ap (λ a. here ∷ a ∷ []) w.1) }
extends [] here (t ∷ u ∷ v ∷ vs) f some n =
    let p = count-cons t (u ∷ v ∷ vs) in
    let q = count-one here in
    let r = count-cons u (v ∷ vs) in
    let x = count-cons v vs in
    let l = All-head Some-row u (v ∷ vs) some in
    let k = All-head Some-row v vs (All-tail Some-row u (v ∷ vs) some) in
    let m = f.0 in
    absurd (omega (arith, n, p, q, r, x, l, k, m))
extends (s ∷ []) here [] f some n = absurd f
extends (s ∷ []) here (t ∷ ss) f some n =
    let p = count-cons t ss in
    let q = count-cons s (here ∷ []) in
    let z = ap length f.0 in
    behind s t [] here ss f.0 (extends [] here ss f.1 (rest-some ss some) (omega (arith, n, p, q, z)))
extends (s ∷ u ∷ us) here [] f some n = absurd f
extends (s ∷ u ∷ us) here (t ∷ ss) f some n =
    let p = count-cons t ss in
    let q = count-cons s (and_stretch (u ∷ us) here) in
    let z = ap length f.0 in
    behind s t (u ∷ us) here ss f.0 (extends (u ∷ us) here ss f.1 (rest-some ss some) (omega (arith, n, p, q, z)))

-- ---- stretches with fewer rows: they end in the same stretch, or in one before it
abbrev pub EndsHere : List (List Row) → List (List Row) → List Row → List Row → Type 0
EndsHere pa pb ha hb = (pa ≡ pb) × (length ha < length hb) × (ha ≡ take (length ha) hb)

pub record EndsBefore (pa pb : List (List Row)) (ha : List Row) : Type 0 where
  pub place : ℕ
  pub rows : List Row
  pub at : slice_get pb place ≡ Some rows
  pub past : pa ≡ take place pb
  pub most : length ha ≤ length rows
  pub front : ha ≡ take (length ha) rows

later : (s t : List Row) (pa pb : List (List Row)) (ha hb : List Row) → s ≡ t → EndsHere pa pb ha hb ⊎ EndsBefore pa pb ha
    → EndsHere (s ∷ pa) (t ∷ pb) ha hb ⊎ EndsBefore (s ∷ pa) (t ∷ pb) ha
later s t pa pb ha hb e w = ⊎_elim
    (λ (h : EndsHere pa pb ha hb). inl (ap (λ r. r ∷ pa) e ∙ ap (λ rs. t ∷ rs) h.0, h.1, h.2))
    (λ (h : EndsBefore pa pb ha). inr (record {
      place = suc h.place;
      rows = h.rows;
      at = h.at;
      past = ap (λ r. r ∷ pa) e ∙ ap (λ rs. t ∷ rs) h.past;
      most = h.most;
      front = h.front;
    }))
    w

pub fewer-rows : (pa pb : List (List Row)) (ha hb : List Row) → IsFront (and_stretch pa ha) (and_stretch pb hb)
    → row_count (and_stretch pa ha) < row_count (and_stretch pb hb) → EndsHere pa pb ha hb ⊎ EndsBefore pa pb ha
fewer-rows [] [] ha hb f l = let p = count-one ha in let q = count-one hb in inl (refl, omega (arith, l, p, q), f.1)
fewer-rows [] (t ∷ pb) ha hb f l = inr (record { place = 0; rows = t; at = refl; past = refl; most = f.0; front = f.1 })
fewer-rows (s ∷ []) [] ha hb f l = absurd f.1
fewer-rows (s ∷ u ∷ us) [] ha hb f l = absurd f.1
fewer-rows (s ∷ []) (t ∷ pb) ha hb f l =
    let p = count-cons s (ha ∷ []) in
    let q = count-cons t (and_stretch pb hb) in
    let z = ap length f.0 in
    later s t [] pb ha hb f.0 (fewer-rows [] pb ha hb f.1 (omega (arith, l, p, q, z)))
fewer-rows (s ∷ u ∷ us) (t ∷ pb) ha hb f l =
    let p = count-cons s (and_stretch (u ∷ us) ha) in
    let q = count-cons t (and_stretch pb hb) in
    let z = ap length f.0 in
    later s t (u ∷ us) pb ha hb f.0 (fewer-rows (u ∷ us) pb ha hb f.1 (omega (arith, l, p, q, z)))
