-- A path whose last number reads one of its own closes a loop.
use Rattle.std.proofs.Common.{◌≡◌, ◌≢◌, ℕ, zero, suc, ◌+◌, ◌-◌, ◌<◌, ◌≤◌, List, [], ◌∷◌, ◌++◌, ⊎_elim, length, slice_index, refl, ap, sym}
use Rattle.std.proofs.Common.{subst, ◌∙◌, arith}
use Rattle.std.specs.List.{Contains}
use Rattle.std.proofs.lemmas.List.Elements.{Contains-append_cases}
use Rattle.vidi_bits.proofs.Lists.{head_in, tail_in, none_in, cases_in}
use Rattle.net_order.specs.Order.{Chain, Once, IsLoopBy, last_of}
use Rattle.net_order.specs.Turn.{down, IsTurned}

once_append : (xs ys : List ℕ) → Once xs → Once ys → ((i : ℕ) → Contains xs i → Contains ys i → ⊥) → Once (xs ++ ys)
once_append [] ys a b h = b
once_append (x ∷ xs) ys a b h = (
  (λ c. ⊎_elim a.0 (λ (d : Contains ys x). h x (head_in x xs) d) (Contains-append_cases xs ys x c)),
  once_append xs ys a.1 b
      (λ i c d. h i (tail_in x xs i c) d),
)

chain_append : (R : ℕ → ℕ → Type 0) (x : ℕ) (xs ys : List ℕ) → Chain R x xs → Chain R (last_of x xs) ys → Chain R x (xs ++ ys)
chain_append R x [] ys a b = b
chain_append R x (d ∷ xs) ys a b = (a.0, chain_append R d xs ys a.1 b)

last_append : (x : ℕ) (xs ys : List ℕ) → last_of x (xs ++ ys) ≡ last_of (last_of x xs) ys
last_append x [] ys = refl
last_append x (d ∷ xs) ys = last_append d xs ys

last_down : (path : List ℕ) (x low n : ℕ) → last_of x (down path low (suc n)) ≡ slice_index path low
last_down path x low zero = ap (slice_index path) (omega arith)
last_down path x low (suc n) = last_down path (slice_index path (low + suc n)) low n

in_down : (path : List ℕ) (low n i : ℕ) → Contains (down path low n) i → (t : ℕ) × (low ≤ t) × (t < low + n) × (slice_index path t ≡ i)
in_down path low zero i h = absurd (none_in i h)
in_down path low (suc n) i h = ⊎_elim
    (λ (e : slice_index path (low + n) ≡ i). (low + n, omega arith, omega arith, e))
    (λ (t : Contains (down path low n) i). let r = in_down path low n i t in let k : r.0 < low + n = r.2
    in (r.0, r.1, omega (arith, k), r.3))
    (cases_in (slice_index path (low + n)) (down path low n) i h)

module _ (R : ℕ → ℕ → Type 0) (path : List ℕ) where
  abbrev Linked : Type 0
  Linked = (t : ℕ) → suc t < length path → R (slice_index path t) (slice_index path (suc t))

  abbrev Differ : Type 0
  Differ = (s t : ℕ) → s < t → t < length path → slice_index path s ≢ slice_index path t

  chain_down : Linked → (x low n : ℕ) → low + n ≤ length path → (0 < n → R (slice_index path (low + n - 1)) x) → Chain R x (down path low n)
  chain_down linked x low zero l h = tt
  chain_down linked x low (suc n) l h = (
    subst (λ t. R (slice_index path t) x) (omega arith) (h (omega arith)),
    chain_down linked (slice_index path (low + n)) low n (omega arith)
        (λ (p : 0 < n). subst (λ t. R (slice_index path (low + n - 1)) (slice_index path t)) (omega (arith, p))
        (linked (low + n - 1) (omega (arith, p)))),
  )

  once_down : Differ → (low n : ℕ) → low + n ≤ length path → Once (down path low n)
  once_down differ low zero l = tt
  once_down differ low (suc n) l =
      ((λ c. let r = in_down path low n _ c in differ r.0 (low + n) r.2 (omega arith) r.3), once_down differ low n (omega arith))

  last_reads : Linked → (x first top m : ℕ) → top + 1 + m ≡ length path → R (slice_index path (length path - 1)) x → slice_index path first
      ≡ x
      → R (slice_index path top) (last_of (slice_index path first) (down path (top + 1) m))
  last_reads linked x first top zero l r e = subst (R (slice_index path top)) (sym e)
      (subst (λ t. R (slice_index path t) x) (omega arith) r)
  last_reads linked x first top (suc m) l r e =
      subst (R (slice_index path top)) (ap (slice_index path) (omega arith) ∙ sym (last_down path (slice_index path first) (top + 1) m))
      (linked top (omega arith))

  closed : Linked → Differ → (x first n top m : ℕ) → top ≡ first + n → top + 1 + m ≡ length path
      → R (slice_index path (length path - 1)) x → slice_index path first ≡ x
      → ((t : ℕ) → first ≤ t → t < length path → slice_index path top ≤ slice_index path t)
      → IsLoopBy R (down path first (suc n) ++ down path (top + 1) m)
  closed linked differ x first n top m at long reads there least =
      let xs = down path first (suc n) in
      let ys = down path (top + 1) m in
      let p0 = slice_index path first in
      let b = last_of p0 ys in
      let ends : last_of 0 (xs ++ ys) ≡ b = last_append 0 xs ys ∙ ap (λ z. last_of z ys) (last_down path 0 first n) in
      let upper : Chain R b xs = chain_down linked b first (suc n) (omega arith)
      (λ q. subst (λ t. R (slice_index path t) b) (omega arith) (last_reads linked x first top m long reads there)) in
      let lower : Chain R p0 ys = chain_down linked p0 (top + 1) m (omega arith)
      (λ q. subst (R (slice_index path (top + 1 + m - 1))) (sym there) (subst (λ t. R (slice_index path t) x) (omega arith) reads)) in
      record {
        some = omega arith;
        chain = subst (λ z. Chain R z (xs ++ ys)) (sym ends) (chain_append R b xs ys upper
            (subst (λ z. Chain R z ys) (sym (last_down path b first n)) lower));
        once = once_append xs ys (once_down differ first (suc n) (omega arith)) (once_down differ (top + 1) m (omega arith))
            (λ i c d. let r = in_down path first (suc n) i c in let s = in_down path (top + 1) m i d in
            let below : r.0 < first + suc n = r.2 in let above : top + 1 ≤ s.0 = s.1 in let high : s.0 < top + 1 + m = s.2 in
            differ r.0 s.0 (omega (arith, below, above, at)) (omega (arith, high, long)) (r.3 ∙ sym s.3));
        least = λ i c. subst (λ t. slice_index path t ≤ i) at (⊎_elim
            (λ (h : Contains xs i). let r = in_down path first (suc n) i h in let below : r.0 < first + suc n = r.2 in
            subst (λ z. slice_index path top ≤ z) r.3 (least r.0 r.1 (omega (arith, below, at, long))))
            (λ (h : Contains ys i). let r = in_down path (top + 1) m i h in let above : top + 1 ≤ r.0 = r.1 in let high : r.0 < top + 1
            + m = r.2 in
            subst (λ z. slice_index path top ≤ z) r.3 (least r.0 (omega (arith, above, at)) (omega (arith, high, long))))
            (Contains-append_cases xs ys i c));
      }

  pub turned_loop : Linked → Differ → (x : ℕ) (ds : List ℕ) → R (slice_index path (length path - 1)) x → IsTurned path x ds → IsLoopBy R ds
  turned_loop linked differ x ds reads t =
      let from : t.first ≤ t.top = t.from in
      let within : t.top < length path = t.within in
      let count : suc (t.top - t.first) ≡ t.top + 1 - t.first = omega (arith, from) in
      subst (IsLoopBy R) (ap (λ n. down path t.first n ++ down path (t.top + 1) (length path - (t.top + 1))) count ∙ sym t.all)
      (closed linked differ x t.first (t.top - t.first) t.top (length path - (t.top + 1)) (omega (arith, from)) (omega (arith, within))
      reads t.there t.least)
