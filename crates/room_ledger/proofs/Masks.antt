-- The channels that a mask names, as tests.
use Rattle.std.proofs.Common.{◌≡◌, ◌≢◌, ℕ, ◌-◌, ◌<◌, ◌≤◌, ◌^◌, ◌&&◌, ◌||◌, ◌==◌, Bool, true, false, not, cond, min, max, bit_and, bit_or}
use Rattle.std.proofs.Common.{refl, ap, sym, ◌∙◌, arith}
use Rattle.std.specs.Int.{bit_at}
use Rattle.std.proofs.lemmas.Bool.{eqb-true, eqb-false}
use Rattle.std.proofs.lemmas.Nat.Bits.{bit_at_and, bit_at_or, bit_at-zero, bit_at-lt, bit_at-pow_same, bit_at-pow_other}
use Rattle.std.proofs.lemmas.Nat.Bits.{bit_at_ones, bit_at_ones_above, same_from_bits}
use Rattle.trace_model.specs.vidi_bits.Number.{has}
use Rattle.trace_model.proofs.vidi_bits_lemmas.BitLemmas.{hasn't-from-bit}
use Rattle.trace_model.proofs.MaskLemmas.{has-from-bit, bit_at-without}

-- a bit is 0 or 1, so a test of it tells it
tells : (x : ℕ) → x < 2 → (b : Bool) → (x == 1) ≡ b → x ≡ cond b 1 0
tells x l true h = eqb-true x 1 h
tells x l false h = let n = eqb-false x 1 h in omega arith

pub bit-is : (mask c : ℕ) (b : Bool) → has mask c ≡ b → bit_at mask c ≡ cond b 1 0
bit-is mask c b h = tells (bit_at mask c) (bit_at-lt mask c) b h

or-bits : (a b : Bool) → (max (cond a 1 0) (cond b 1 0) == 1) ≡ (a || b)
or-bits true true = refl
or-bits true false = refl
or-bits false true = refl
or-bits false false = refl

and-bits : (a b : Bool) → (min (cond a 1 0) (cond b 1 0) == 1) ≡ (a && b)
and-bits true true = refl
and-bits true false = refl
and-bits false true = refl
and-bits false false = refl

without-bits : (a b : Bool) → (cond a 1 0 - cond b 1 0 == 1) ≡ (a && not b)
without-bits true true = refl
without-bits true false = refl
without-bits false true = refl
without-bits false false = refl

or-of : (x y : ℕ) (p q : Bool) → x ≡ cond p 1 0 → y ≡ cond q 1 0 → (max x y == 1) ≡ (p || q)
or-of x y p q e f = rw (e, f) (or-bits p q)

and-of : (x y : ℕ) (p q : Bool) → x ≡ cond p 1 0 → y ≡ cond q 1 0 → (min x y == 1) ≡ (p && q)
and-of x y p q e f = rw (e, f) (and-bits p q)

without-of : (x y : ℕ) (p q : Bool) → x ≡ cond p 1 0 → y ≡ cond q 1 0 → (x - y == 1) ≡ (p && not q)
without-of x y p q e f = rw (e, f) (without-bits p q)

pub has-or : (a b c : ℕ) → has (bit_or a b) c ≡ (has a c || has b c)
has-or a b c = ap (λ x. x == 1) (bit_at_or a b c) ∙ or-of (bit_at a c) (bit_at b c) (has a c) (has b c) (bit-is a c _ refl)
    (bit-is b c _ refl)

pub has-and : (a b c : ℕ) → has (bit_and a b) c ≡ (has a c && has b c)
has-and a b c = ap (λ x. x == 1) (bit_at_and a b c) ∙ and-of (bit_at a c) (bit_at b c) (has a c) (has b c) (bit-is a c _ refl)
    (bit-is b c _ refl)

pub has-without : (a b : ℕ) → a < 2 ^ 128 → b < 2 ^ 128 → (c : ℕ) → has (bit_and a (2 ^ 128 - 1 - b)) c ≡ (has a c && not (has b c))
has-without a b la lb c = ap (λ x. x == 1) (bit_at-without a b la lb c)
    ∙ without-of (bit_at a c) (bit_at b c) (has a c) (has b c) (bit-is a c _ refl) (bit-is b c _ refl)

pub has-zero : (c : ℕ) → has 0 c ≡ false
has-zero c = hasn't-from-bit 0 c (bit_at-zero c)

pub has-pow_same : (c : ℕ) → has (2 ^ c) c ≡ true
has-pow_same c = has-from-bit (2 ^ c) c (bit_at-pow_same c)

pub has-pow_other : (c i : ℕ) → i ≢ c → has (2 ^ c) i ≡ false
has-pow_other c i h = hasn't-from-bit (2 ^ c) i (bit_at-pow_other c i h)

-- the mask of n channels
pub has-all : (n c : ℕ) → c < n → has (2 ^ n - 1) c ≡ true
has-all n c l = has-from-bit (2 ^ n - 1) c (bit_at_ones n c l)

pub has-all_above : (n c : ℕ) → n ≤ c → has (2 ^ n - 1) c ≡ false
has-all_above n c l = hasn't-from-bit (2 ^ n - 1) c (bit_at_ones_above n c l)

-- masks that name the same channels are equal
pub same-masks : (a b : ℕ) → ((c : ℕ) → has a c ≡ has b c) → a ≡ b
same-masks a b h = same_from_bits a b (λ c. bit-is a c (has b c) (h c) ∙ sym (bit-is b c (has b c) refl))
