-- The first net at which E9 holds by some masks and named nets.
use Rattle.std.proofs.Common.{◌≡◌, ℕ, ◌<◌, ◌≤◌, ◌==◌, nat_lt, ◌&&◌, ◌||◌, Bool, true, false, List, [], ◌∷◌, if◌then◌else◌}
use Rattle.std.proofs.Common.{refl, ap, sym, subst, ◌∙◌, arith}
use Rattle.std.proofs.lemmas.Bool.{eqb-true, eq-eqb, ltb-true, lt-ltb, or_from, false_from_ne_true}
use Rattle.std.proofs.Math.Bool.{or-true, or_assoc}
use Rattle.net_drive.proofs.vidi_bits_lemmas.Bools.{and_none, left_of, or_none}
use mathlib.Core.Path.{fun_ext}
use Rattle.net_design.specs.declared.act.Mask.{Mask}
use Rattle.net_design.specs.Bits.{BitSet}
use Rattle.vlog_driver.specs.Masks.{is_missed, is_read, lesser, least_missed, least_read, IsLeast}
use Rattle.vlog_driver.proofs.OneMask.{any_missed, any_read}

-- a net that isn't below n is no net below n
past : (net n m : ℕ) → nat_lt net n ≡ false → m < n → (b : Bool) → (net == m) ≡ b → (b && true) ≡ true → ⊥
past net n m s l true e t =
    let same : net ≡ m = eqb-true net m e in
    let small : net < n = omega (arith, l, same) in
    let yes : nat_lt net n ≡ true = lt-ltb net n small in
    absurd (cc)
past net n m s l false e t = absurd (cc)

kept : (b : Bool) (net n : ℕ) → (if b && false then net else n) ≡ n
kept true net n = refl
kept false net n = refl

-- one more net is tried
tried : (p : ℕ → Bool) (count n net : ℕ) (bad small : Bool) → nat_lt net n ≡ small → IsLeast p count n
    → IsLeast (λ m. p m || ((net == m) && bad)) count (if small && bad then net else n)
tried p count n net true true s h =
    let l : net < n = ltb-true net n s in
    let w : n ≤ count = h.within in
    record {
      within = omega (arith, l, w);
      before = λ m b. or_from (p m) ((net == m) && true) (h.before m (omega (arith, l, b)))
          (false_from_ne_true ((net == m) && true) (λ t. let e : net ≡ m = eqb-true net m (left_of (net == m) true t) in omega (arith, b, e)));
      here = λ c. ap (λ b. p net || (b && true)) (eq-eqb net net refl) ∙ or-true (p net);
    }
tried p count n net true false s h = record {
  within = h.within;
  before = λ m b. or_from (p m) ((net == m) && true) (h.before m b)
      (false_from_ne_true ((net == m) && true) (λ t. past net n m s b (net == m) refl t));
  here = λ c. ap (λ b. b || ((net == n) && true)) (h.here c);
}
tried p count n net false small s h =
    subst (λ q. IsLeast q count (if small && false then net else n))
    (fun_ext (λ m. or_none (p m) ∙ ap (λ b. p m || b) (and_none (net == m))))
    (subst (λ k. IsLeast p count k) (sym (kept small net n)) h)

module _ (adds : BitSet) (count : ℕ) where
  pub least_of : (masks : List Mask) (p : ℕ → Bool) (n : ℕ) → IsLeast p count n
      → IsLeast (λ m. p m || any_missed adds masks m) count (least_missed adds masks n)
  least_of [] p n h = subst (λ q. IsLeast q count n) (fun_ext (λ m. or_none (p m))) h
  least_of (x ∷ xs) p n h =
      let bad = is_missed adds x.net x.bits in
      let one : IsLeast (λ m. p m || ((x.net == m) && bad)) count (lesser bad x.net n) = tried p count n x.net bad (nat_lt x.net n) refl h in
      let all = least_of xs (λ m. p m || ((x.net == m) && bad)) (lesser bad x.net n) one in
      subst (λ q. IsLeast q count (least_missed adds xs (lesser bad x.net n)))
      (fun_ext (λ m. or_assoc (p m) ((x.net == m) && bad) (any_missed adds xs m))) all

module _ (reads : BitSet) (count : ℕ) where
  pub least_among : (nets : List ℕ) (p : ℕ → Bool) (n : ℕ) → IsLeast p count n
      → IsLeast (λ m. p m || any_read reads nets m) count (least_read reads nets n)
  least_among [] p n h = subst (λ q. IsLeast q count n) (fun_ext (λ m. or_none (p m))) h
  least_among (x ∷ xs) p n h =
      let bad = is_read reads x in
      let one : IsLeast (λ m. p m || ((x == m) && bad)) count (lesser bad x n) = tried p count n x bad (nat_lt x n) refl h in
      let all = least_among xs (λ m. p m || ((x == m) && bad)) (lesser bad x n) one in
      subst (λ q. IsLeast q count (least_read reads xs (lesser bad x n)))
      (fun_ext (λ m. or_assoc (p m) ((x == m) && bad) (any_read reads xs m))) all

-- of no masks
pub least_start : (count : ℕ) → IsLeast (λ m. false) count count
least_start count = record {
  within = omega arith;
  before = λ m l. refl;
  here = λ l. absurd (omega (arith, l));
}
