-- Tests, taken apart and put together.
use Rattle.std.proofs.Common.{◌≡◌, ◌&&◌, ◌||◌, Bool, true, false, not, refl, sym}
use Rattle.std.proofs.Math.Bool.{and-false}

pub and_none : (b : Bool) → false ≡ (b && false)
and_none true = refl
and_none false = refl

pub or_none : (b : Bool) → b ≡ (b || false)
or_none true = refl
or_none false = refl

pub and_true : (b : Bool) → b ≡ (b && true)
and_true true = refl
and_true false = refl

pub not_both : (b : Bool) → b ≡ true → b ≡ false → ⊥
not_both true h k = absurd cc
not_both false h k = absurd cc

pub and_assoc : (a b c : Bool) → (a && (b && c)) ≡ ((a && b) && c)
and_assoc true b c = refl
and_assoc false b c = refl

pub same_test : (a b : Bool) → (a ≡ true → b ≡ true) → (b ≡ true → a ≡ true) → a ≡ b
same_test true b h k = sym (h refl)
same_test false true h k = k refl
same_test false false h k = refl

-- a and not b doesn't hold, and a does
pub and_not_false : (a b : Bool) → (a && not b) ≡ false → a ≡ true → b ≡ true
and_not_false true true h k = refl
and_not_false true false h k = (cc)
and_not_false false b h k = (cc)

pub left_of : (a b : Bool) → (a && b) ≡ true → a ≡ true
left_of true b h = refl
left_of false b h = h

pub right_of : (a b : Bool) → (a && b) ≡ true → b ≡ true
right_of true b h = h
right_of false b h = (cc)

pub never : (P : Type 0) → false ≡ true → P
never P h = (cc)

pub and_swap : (a b c : Bool) → (a && (b && c)) ≡ (b && (a && c))
and_swap true b c = refl
and_swap false b c = sym (and-false b)

-- named here for tactics, which can be given no lemma of std
pub and_grouped : (a b c : Bool) → ((a && b) && c) ≡ (a && (b && c))
and_grouped true b c = refl
and_grouped false b c = refl
