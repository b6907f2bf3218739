-- A clock that doesn't cover another one is below it in some channel.
use Rattle.std.proofs.Common.{◌≡◌, ℕ, ◌+◌, ◌<◌, ◌≤◌, Bool, true, false, List, length, ⊎_elim, sym, ap, ◌∙◌, arith}
use Rattle.std.specs.Prelude.{nat_lt}
use Rattle.std.specs.List.{list_any, range_with_len}
use Rattle.std.proofs.lemmas.Bool.{cases_Bool, cases_lt, false≢true, lt-ltb, le-ltb}
use Rattle.std.proofs.lemmas.List.Folds.{list_any_none, list_any_at}
use Rattle.std.proofs.lemmas.List.FromFn.{length-range_with_len, get_or-range_with_len}
use Rattle.vec_clock.specs.trace_model.declared.packet.Packet.{Packet}
use Rattle.vec_clock.specs.trace_model.Clock.{clock, Covers}
use Rattle.trace_compare.specs.Walking.{IsCovering}

abbrev pub short : (ℕ → ℕ) → (ℕ → ℕ) → ℕ → Bool
short x y d = nat_lt (x d) (y d)

none-short : (n : ℕ) (x y : ℕ → ℕ) → Covers n x y → list_any (short x y) (range_with_len 0 n) ≡ false
none-short n x y covers = list_any_none (short x y) (range_with_len 0 n) (λ k d l.
    let within : k < n = omega (arith, l, length-range_with_len 0 n) in
    ap (short x y) (get_or-range_with_len 0 n k d within) ∙ le-ltb (x (0 + k)) (y (0 + k)) (covers (0 + k) (omega arith)))

covered : (n : ℕ) (x y : ℕ → ℕ) → list_any (short x y) (range_with_len 0 n) ≡ false → Covers n x y
covered n x y none d l = ⊎_elim
    (λ (less : x d < y d). absurd (false≢true (sym none ∙ list_any_at (short x y) (range_with_len 0 n) d 0
    (omega (arith, l, length-range_with_len 0 n))
    (ap (short x y) (get_or-range_with_len 0 n d 0 l ∙ (omega arith)) ∙ lt-ltb (x d) (y d) less))))
    (λ (more : y d ≤ x d). more)
    (cases_lt (x d) (y d))

some-short : (n : ℕ) (x y : ℕ → ℕ) → ¬ Covers n x y → list_any (short x y) (range_with_len 0 n) ≡ true
some-short n x y not_covers = ⊎_elim
    (λ (t : list_any (short x y) (range_with_len 0 n) ≡ true). t)
    (λ (f : list_any (short x y) (range_with_len 0 n) ≡ false). absurd (not_covers (covered n x y f)))
    (cases_Bool (list_any (short x y) (range_with_len 0 n)))

-- a packet before the place of the first that covers is below in some channel
pub early-place : (n : ℕ) (a b : List Packet) (p q place : ℕ) → IsCovering n a b p place → q < length b
    → nat_lt q place ≡ list_any (short (clock b q) (clock a p)) (range_with_len 0 n)
early-place n a b p q place is l = ⊎_elim
    (λ (less : q < place). lt-ltb q place less ∙ sym (some-short n (clock b q) (clock a p) (is.before q less)))
    (λ (more : place ≤ q). le-ltb q place more ∙ sym (none-short n (clock b q) (clock a p) (is.from q more l)))
    (cases_lt q place)
