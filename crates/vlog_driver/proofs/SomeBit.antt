-- Sets of bits of one net that have a bit.
use Rattle.std.proofs.Common.{◌≡◌, ℕ, zero, suc, ◌^◌, ◌<◌, ◌≤◌, ◌==◌, ◌||◌, not, Bool, true, false, refl, ap, sym, ◌∙◌, ⊎_elim}
use Rattle.std.proofs.Common.{arith}
use Rattle.std.specs.Int.{bit_at}
use Rattle.std.proofs.lemmas.Bool.{cases_lt, eqb-true, eq-eqb, false_from_ne_true}
use Rattle.std.proofs.lemmas.Nat.Bits.{bit_at-zero, bit_at-lt, bit_at_above, same_from_bits}
use mathlib.Core.Path.{fun_ext}
use Rattle.net_drive.specs.vidi_bits.Number.{has}
use Rattle.vlog_driver.specs.Latch.{any_below, some_bit}

-- ---- the first n bits
regroup : (a b c d : Bool) → ((a || b) || (c || d)) ≡ ((a || c) || (b || d))
regroup true b c d = refl
regroup false true true d = refl
regroup false true false d = refl
regroup false false c d = refl

any_or : (n : ℕ) (p q : ℕ → Bool) → any_below n (λ k. p k || q k) ≡ (any_below n p || any_below n q)
any_or zero p q = refl
any_or (suc n) p q = ap (λ b. b || (p n || q n)) (any_or n p q) ∙ regroup (any_below n p) (any_below n q) (p n) (q n)

any_none : (n : ℕ) → any_below n (λ k. false) ≡ false
any_none zero = refl
any_none (suc n) = ap (λ b. b || false) (any_none n)

-- a bit below n that is in a set
any_has : (n : ℕ) (p : ℕ → Bool) (k : ℕ) → k < n → p k ≡ true → any_below n p ≡ true
any_has zero p k l h = absurd (omega arith)
any_has (suc n) p k l h = ⊎_elim
    (λ (below : k < n). ap (λ b. b || p n) (any_has n p k below h))
    (λ (from : n ≤ k). let e : k ≡ n = omega arith in last (any_below n p) (p n) (ap p (sym e) ∙ h))
    (cases_lt k n)
  where
    last : (a b : Bool) → b ≡ true → (a || b) ≡ true
    last true b t = refl
    last false b t = t

any_lacks : (n : ℕ) (p : ℕ → Bool) → any_below n p ≡ false → (k : ℕ) → k < n → p k ≡ false
any_lacks n p h k l = false_from_ne_true (p k) (λ t. let y : any_below n p ≡ true = any_has n p k l t in absurd (cc))

any_no : (n : ℕ) (p : ℕ → Bool) → ((k : ℕ) → k < n → p k ≡ false) → any_below n p ≡ false
any_no zero p h = refl
any_no (suc n) p h =
    let last : n < suc n = omega arith in
    ap (λ b. b || p n) (any_no n p (λ k l. h k (omega (arith, l)))) ∙ h n last

-- ---- all bits of a net

pub some_or : (p q : ℕ → Bool) → some_bit (λ k. p k || q k) ≡ (some_bit p || some_bit q)
unfolding some_bit
some_or p q = any_or 128 p q

pub some_none : some_bit (λ k. false) ≡ false
unfolding some_bit
some_none = any_none 128

pub some_same : (p q : ℕ → Bool) → ((k : ℕ) → p k ≡ q k) → some_bit p ≡ some_bit q
some_same p q h = ap some_bit (fun_ext h)

pub some_has : (p : ℕ → Bool) (k : ℕ) → k < 128 → p k ≡ true → some_bit p ≡ true
unfolding some_bit
some_has p k l h = any_has 128 p k l h

pub some_lacks : (p : ℕ → Bool) → some_bit p ≡ false → (k : ℕ) → k < 128 → p k ≡ false
unfolding some_bit
some_lacks p h k l = any_lacks 128 p h k l

pub some_no : (p : ℕ → Bool) → ((k : ℕ) → k < 128 → p k ≡ false) → some_bit p ≡ false
unfolding some_bit
some_no p h = any_no 128 p h

-- ---- the bits of a mask

no_bit : (x : ℕ) → x < 2 → (x == 1) ≡ false → x ≡ 0
no_bit zero l h = refl
no_bit (suc zero) l h = absurd (cc)
no_bit (suc (suc x)) l h = absurd (omega arith)

no_bits_left : (x k : ℕ) → x < 2 ^ 128 → ((i : ℕ) → i < 128 → has x i ≡ false) → bit_at x k ≡ bit_at 0 k
no_bits_left x k l h = ⊎_elim
    (λ (below : k < 128). no_bit (bit_at x k) (bit_at-lt x k) (h k below) ∙ sym (bit_at-zero k))
    (λ (from : 128 ≤ k). bit_at_above x 128 k l from ∙ sym (bit_at-zero k))
    (cases_lt k 128)

some_cases : (x : ℕ) (b c : Bool) → x < 2 ^ 128 → some_bit (has x) ≡ b → (x == 0) ≡ c → b ≡ not c
some_cases x true true l h e =
    let z : x ≡ 0 = eqb-true x 0 e in
    let none : some_bit (has x) ≡ false =
    some_same (has x) (λ k. false) (λ k. ap (λ n. has n k) z ∙ ap (λ n. n == 1) (bit_at-zero k)) ∙ some_none in
    absurd (cc)
some_cases x true false l h e = refl
some_cases x false true l h e = refl
some_cases x false false l h e =
    let z : x ≡ 0 = same_from_bits x 0 (λ k. no_bits_left x k l (λ i below. some_lacks (has x) h i below)) in
    let t : (x == 0) ≡ true = eq-eqb x 0 z in
    absurd (cc)

-- a mask has a bit where it isn't 0
pub some_of_mask : (x : ℕ) → x < 2 ^ 128 → some_bit (has x) ≡ not (x == 0)
some_of_mask x l = some_cases x (some_bit (has x)) (x == 0) l refl refl
