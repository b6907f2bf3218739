-- Exactly one list of stretches that have n rows, wherever there is exactly one list of n rows behind what is so far.
use Rattle.std.proofs.Common.{◌≡◌, ◌⊎◌, ℕ, zero, suc, ◌+◌, ◌-◌, ◌<◌, ◌≤◌, List, [], ◌∷◌, Some, length, take, slice_get, inl, inr}
use Rattle.std.proofs.Common.{⊎_elim, refl, ap, sym, subst, ◌∙◌, arith}
use Rattle.std.proofs.Math.Logic.{∥∥₁_elim, ∥∥₁_map, ∥∥₁_prop}
use Rattle.std.proofs.lemmas.Bool.{cases_lt, cases_order}
use Rattle.std.proofs.lemmas.List.{take-take, length-take-le}
use Rattle.std.proofs.lemmas.List.Sums.{sum_by-cons}
use Rattle.std.proofs.lemmas.Option.{same_Some}
use Rattle.run_model.specs.trace_model.declared.row.Row.{Row}
use Rattle.run_model.specs.Laws.{OneOfLength}
use Rattle.run_laws.specs.StretchLaws.{OneOfRows}
use Rattle.run_model.specs.Stretches.{AreStretches, IsTurned, IsUnturned, row_count}
use Rattle.run_model.proofs.Deciding.{Decides, Least, NoneBelow, least-or-none}

pub count-cons : (s : List Row) (ss : List (List Row)) → row_count (s ∷ ss) ≡ length s + row_count ss
count-cons s ss = sum_by-cons length s ss

pub count-one : (s : List Row) → row_count (s ∷ []) ≡ length s
count-one s = let c = count-cons s [] in omega (arith, c)

-- the first of them are the first of the others, and the last one is the first rows of one of them
abbrev pub IsFront : List (List Row) → List (List Row) → Type 0
IsFront [] b = ⊥
IsFront (s ∷ a) [] = ⊥
IsFront (s ∷ []) (t ∷ b) = (length s ≤ length t) × (s ≡ take (length s) t)
IsFront (s ∷ u ∷ us) (t ∷ b) = (s ≡ t) × IsFront (u ∷ us) b

pub same-of : {Is : List Row → Type 0} → ((n : ℕ) → OneOfLength Is n) → (a b : List Row) → Is a → Is b → length a ≡ length b → a ≡ b
same-of one a b ra rb l = (one (length b)).1 a b l refl ra rb

-- ---- each stretch
-- `Fine x` holds of what is so far, from the first stretch on
module _ {X : Type 0} (Is Turns : X → List Row → Type 0) (next : X → List Row → X) (Fine : X → Type 0)
    (further : (x : X) (rows : List Row) → Fine x → IsTurned Is Turns x rows → Fine (next x rows)) where
  -- a stretch follows what is so far
  pub record Follows (rows : List Row) : Type 0 where
    pub so_far : X
    pub fine : Fine so_far
    pub is : Is so_far rows

  pub each-follows : (x : X) → Fine x → (ss : List (List Row)) → AreStretches Is Turns next x ss → (k : ℕ) (rows : List Row)
      → slice_get ss k ≡ Some rows → Follows rows
  each-follows x fine [] are k rows at = absurd are
  each-follows x fine (s ∷ []) are zero rows at = record { so_far = x; fine = fine; is = subst (Is x) (same_Some s rows at) are.0 }
  each-follows x fine (s ∷ []) are (suc k) rows at = absurd (cc)
  each-follows x fine (s ∷ t ∷ ss) are zero rows at = record { so_far = x; fine = fine; is = subst (Is x) (same_Some s rows at) are.0.is }
  each-follows x fine (s ∷ t ∷ ss) are (suc k) rows at = each-follows (next x s) (further x s fine are.0) (t ∷ ss) are.2 k rows at

  module _ (same : (x : X) → Fine x → (a b : List Row) → Is x a → Is x b → length a ≡ length b → a ≡ b)
      (front : (x : X) (rows : List Row) (k : ℕ) → Is x rows → Is x (take k rows)) where
    -- ---- at most one
    -- rows behind which a reset comes aren't the front of more rows of the stretch
    no-more : (x : X) → Fine x → (a b : List Row) → IsTurned Is Turns x a → Is x b → IsUnturned Turns x b → length a < length b → ⊥
    no-more x fine a b turned rb unturned l =
        let at : a ≡ take (length a) b = same x fine a (take (length a) b) turned.is (front x b (length a) rb)
        (sym (length-take-le (length a) b (omega (arith, l)))) in
        unturned (length a) turned.some l (subst (Turns x) at turned.turns)

    turned-same : (x : X) → Fine x → (a b : List Row) → IsTurned Is Turns x a → IsTurned Is Turns x b → a ≡ b
    turned-same x fine a b ta tb = ⊎_elim
        (λ (l : length a ≡ length b). same x fine a b ta.is tb.is l)
        (λ (w : (length a < length b) ⊎ (length b < length a)). ⊎_elim
        (λ (l : length a < length b). absurd (no-more x fine a b ta tb.is tb.unturned l))
        (λ (l : length b < length a). absurd (no-more x fine b a tb ta.is ta.unturned l))
        w)
        (cases_order (length a) (length b))

    pub only : (x : X) → Fine x → (a b : List (List Row)) → AreStretches Is Turns next x a → AreStretches Is Turns next x b
        → row_count a ≡ row_count b → a ≡ b
    only x fine [] b ra rb l = absurd ra
    only x fine (s ∷ a) [] ra rb l = absurd rb
    only x fine (s ∷ []) (t ∷ []) ra rb l =
        ap (λ y. y ∷ []) (same x fine s t ra.0 rb.0 (let p = count-one s in let q = count-one t in omega (arith, l, p, q)))
    only x fine (s ∷ []) (t ∷ u ∷ us) ra rb l =
        let p = count-one s in
        let q = count-cons t (u ∷ us) in
        let r = count-cons u us in
        let some = rb.1 in
        absurd (no-more x fine t s rb.0 ra.0 ra.1 (omega (arith, l, p, q, r, some)))
    only x fine (t ∷ u ∷ us) (s ∷ []) ra rb l =
        let p = count-one s in
        let q = count-cons t (u ∷ us) in
        let r = count-cons u us in
        let some = ra.1 in
        absurd (no-more x fine t s ra.0 rb.0 rb.1 (omega (arith, l, p, q, r, some)))
    only x fine (s ∷ u ∷ us) (t ∷ v ∷ vs) ra rb l =
        let first : s ≡ t = turned-same x fine s t ra.0 rb.0 in
        let p = count-cons s (u ∷ us) in
        let q = count-cons t (v ∷ vs) in
        let z : length s ≡ length t = ap length first in
        let rest : u ∷ us ≡ v ∷ vs = only (next x s) (further x s fine ra.0) (u ∷ us) (v ∷ vs) ra.2
        (subst (λ r. AreStretches Is Turns next (next x r) (v ∷ vs)) (sym first) rb.2) (omega (arith, l, p, q, z)) in
        ap (λ r. r ∷ u ∷ us) first ∙ ap (λ rs. t ∷ rs) rest

    first-front : (x : X) → Fine x → (s t : List Row) → Is x s → Is x t → length s ≤ length t → (length s ≤ length t) × (s ≡ take (length s) t)
    first-front x fine s t rs rt l = (l, same x fine s (take (length s) t) rs (front x t (length s) rt) (sym (length-take-le (length s) t l)))

    -- those with at most as many rows are a front of the others
    pub is-front : (x : X) → Fine x → (a b : List (List Row)) → AreStretches Is Turns next x a → AreStretches Is Turns next x b
        → row_count a ≤ row_count b → IsFront a b
    is-front x fine [] b ra rb l = absurd ra
    is-front x fine (s ∷ a) [] ra rb l = absurd rb
    is-front x fine (s ∷ []) (t ∷ []) ra rb l =
        let p = count-one s in
        let q = count-one t in
        first-front x fine s t ra.0 rb.0 (omega (arith, l, p, q))
    is-front x fine (s ∷ []) (t ∷ u ∷ us) ra rb l = ⊎_elim
        (λ (less : length t < length s). absurd (no-more x fine t s rb.0 ra.0 ra.1 less))
        (λ (most : length s ≤ length t). first-front x fine s t ra.0 rb.0.is most)
        (cases_lt (length t) (length s))
    is-front x fine (s ∷ u ∷ us) (t ∷ []) ra rb l =
        let p = count-one t in
        let q = count-cons s (u ∷ us) in
        let r = count-cons u us in
        let some = ra.1 in
        absurd (no-more x fine s t ra.0 rb.0 rb.1 (omega (arith, l, p, q, r, some)))
    is-front x fine (s ∷ u ∷ us) (t ∷ v ∷ vs) ra rb l =
        let first : s ≡ t = turned-same x fine s t ra.0 rb.0 in
        let p = count-cons s (u ∷ us) in
        let q = count-cons t (v ∷ vs) in
        let z : length s ≡ length t = ap length first in (
          first,
          is-front (next x s) (further x s fine ra.0) (u ∷ us) (v ∷ vs) ra.2
              (subst (λ r. AreStretches Is Turns next (next x r) (v ∷ vs)) (sym first) rb.2) (omega (arith, l, p, q, z)),
        )

    -- ---- at least one
    module _ (some : (x : X) → Fine x → (n : ℕ) → ∥ ((rows : List Row) × (length rows ≡ n) × Is x rows) ∥₁)
        (tell : (x : X) (rows : List Row) → Decides (Turns x rows)) where
      abbrev Found : X → ℕ → Type 0
      Found x n = (ss : List (List Row)) × (row_count ss ≡ n) × AreStretches Is Turns next x ss

      joined : (x : X) (s : List Row) (n : ℕ) → IsTurned Is Turns x s → 0 < n → Found (next x s) n → Found x (length s + n)
      joined x s n turned some ([], l, are) = absurd are
      joined x s n turned some (t ∷ [], l, are) =
          let c = count-one t in
          (s ∷ t ∷ [], count-cons s (t ∷ []) ∙ ap (λ k. length s + k) l, (turned, omega (arith, c, l, some), are))
      joined x s n turned some (t ∷ u ∷ us, l, are) =
          (s ∷ t ∷ u ∷ us, count-cons s (t ∷ u ∷ us) ∙ ap (λ k. length s + k) l, (turned, are.0.some, are))

      -- a reset comes behind the first k rows
      abbrev TurnsAt : X → List Row → ℕ → Type 0
      TurnsAt x rows k = (0 < k) × Turns x (take k rows)

      turns-or-not : (x : X) (rows : List Row) (k : ℕ) → Decides (TurnsAt x rows k)
      turns-or-not x rows k = ⊎_elim
          (λ (some : 0 < k). ⊎_elim (λ (h : Turns x (take k rows)). inl (some, h)) (λ (none : Turns x (take k rows) → ⊥). inr (λ h. none h.1))
          (tell x (take k rows)))
          (λ (z : k ≤ 0). inr (λ h. (let some = h.0 in absurd (omega (arith, z, some)))))
          (cases_lt 0 k)

      abbrev Rows : X → ℕ → Type 0
      Rows x n = (rows : List Row) × (length rows ≡ n) × Is x rows

      -- no reset comes
      whole : (x : X) (n : ℕ) (w : Rows x n) → NoneBelow (TurnsAt x w.0) n → Found x n
      whole x n w none =
          let long = w.1 in
          (w.0 ∷ [], count-one w.0 ∙ w.1, (w.2, λ j some l h. none j (omega (arith, l, long)) (some, h)))

      -- the rows up to the first reset
      cut : (x : X) (n : ℕ) (w : Rows x n) (t : Least (TurnsAt x w.0) n)
          → IsTurned Is Turns x (take t.number w.0) × (length (take t.number w.0) ≡ t.number)
      cut x n w t =
          let long = w.1 in
          let less = t.below in
          let some = t.passes.0 in
          let size = length-take-le t.number w.0 (omega (arith, long, less)) in (
            record {
              is = front x w.0 t.number w.2;
              some = omega (arith, size, some);
              turns = t.passes.1;
              unturned = λ j z b h. t.least j (omega (arith, b, size))
                  (z, subst (Turns x) (take-take j t.number w.0 (omega (arith, b, size))) h);
            },
            size,
          )

      -- n is at most `most`, which becomes smaller
      there-is : (most : ℕ) (x : X) → Fine x → (n : ℕ) → n ≤ most → ∥ Found x n ∥₁
      there-is zero x fine n few = ∥∥₁_map {B = Found x n} (some x fine n)
          (λ (w : Rows x n). whole x n w (λ j l h. (let some = h.0 in absurd (omega (arith, few, some, l)))))
      there-is (suc most) x fine n few = ∥∥₁_elim (some x fine n) ∥∥₁_prop (λ (w : Rows x n). ⊎_elim
          (λ (t : Least (TurnsAt x w.0) n).
          (let c = cut x n w t in
          let some = t.passes.0 in
          let less = t.below in
          let size = c.1 in
          ∥∥₁_map {B = Found x n}
          (there-is most (next x (take t.number w.0)) (further x (take t.number w.0) fine c.0) (n - t.number) (omega (arith, few, some, less)))
          (λ (r : Found (next x (take t.number w.0)) (n - t.number)).
          subst (Found x) (omega (arith, size, less)) (joined x (take t.number w.0) (n - t.number) c.0 (omega (arith, less)) r))))
          (λ (none : NoneBelow (TurnsAt x w.0) n). ∣ whole x n w none ∣₁)
          (least-or-none (TurnsAt x w.0) (turns-or-not x w.0) n))

      pub one-of_rows : (x : X) → Fine x → (n : ℕ) → OneOfRows (AreStretches Is Turns next x) n
      one-of_rows x fine n = (there-is n x fine n (omega arith), λ a b la lb ra rb. only x fine a b ra rb (la ∙ sym lb))
