-- Where nothing blocks a move, neither start nor reset is on the way.
use Rattle.std.proofs.Common.{◌≡◌, ◌⊎◌, ℕ, zero, suc, ◌+◌, ◌<◌, ◌≤◌, Bool, true, false, List, Option, Some, None, inl, inr}
use Rattle.std.proofs.Common.{ap, ◌∙◌, ⊎_elim, arith}
use Rattle.std.proofs.lemmas.Bool.{cases_Bool, cases_lt}
use Rattle.trace_model.specs.declared.event.Kind.TheVariants.{Start, Reset}
use Rattle.trace_model.specs.declared.packet.Packet.{Packet}
use Rattle.trace_edit.specs.Found.{IsFirstOf, IsLastOf}
use Rattle.trace_edit.specs.Moved.{does_at, IsNextStart, IsOwnStart, IsResetBetween}

-- the least number that has a property, or none has it
abbrev pub IsLeast : (ℕ → Type 0) → Option ℕ → Type 0
IsLeast P None = (s : ℕ) → ¬ P s
IsLeast P (Some s) = P s × ((r : ℕ) → P r → s ≤ r)

not-both : {X : Type 0} (b : Bool) → b ≡ true → b ≡ false → X
not-both true h g = absurd cc
not-both false h g = absurd cc

-- ---- `after`
pub next-least : (packets : List Packet) (c p q : ℕ) (o : Option ℕ) → IsFirstOf (does_at Start c packets) (p + 1) (q + 1) o
    → IsLeast (λ s. IsNextStart packets c p s × (s ≤ q)) o
next-least packets c p q None none = λ s h.
    not-both (does_at Start c packets s) h.0.start (none s (let l = h.0.behind in omega (arith, l)) (let l = h.1 in omega (arith, l)))
next-least packets c p q (Some s) found = (
  (
    record {
      start = found.2;
      behind = let l = found.0 in omega (arith, l);
      first = λ r a b. found.3 r (omega (arith, a)) b;
    },
    (let l = found.1 in omega (arith, l)),
  ),
  λ r h. ⊎_elim
      (λ (l : r < s). not-both (does_at Start c packets r) h.0.start (found.3 r (let k = h.0.behind in omega (arith, k)) l))
      (λ (l : s ≤ r). l)
      (cases_lt r s),
)

-- ---- `before`
pub own-least : (packets : List Packet) (c p q : ℕ) (o : Option ℕ) → IsLastOf (does_at Start c packets) q (p + 1) o
    → IsLeast (λ s. IsOwnStart packets c p s × (q ≤ s)) o
own-least packets c p q None none = λ s h.
    not-both (does_at Start c packets s) h.0.start (none s h.1 (let l = h.0.until in omega (arith, l)))
own-least packets c p q (Some s) found = (
  (
    record {
      start = found.2;
      until = let l = found.1 in omega (arith, l);
      last = λ r a b. found.3 r a (omega (arith, b));
    },
    found.0,
  ),
  λ r h. ⊎_elim
      (λ (l : r < s). not-both (does_at Start c packets s) found.2 (h.0.last s l (let k = found.1 in omega (arith, k))))
      (λ (l : s ≤ r). l)
      (cases_lt r s),
)

-- ---- one is found, or none
first-of : (test : ℕ → Bool) (low high : ℕ) → (o : Option ℕ) × IsFirstOf test low high o
first-of test low zero = (None, λ r a b. absurd (omega (arith, b)))
first-of test low (suc high) = next (first-of test low high)
  where
    here : ((r : ℕ) → low ≤ r → r < high → test r ≡ false) → (test high ≡ true) ⊎ (test high ≡ false) → (low ≤ high) ⊎ (high < low)
        → (o : Option ℕ) × IsFirstOf test low (suc high) o
    here none (inl y) (inl l) = (Some high, (l, omega arith, y, none))
    here none (inl y) (inr l) = (None, λ r a b. absurd (omega (arith, a, b, l)))
    here none (inr n) l = (
      None,
      λ r a b. ⊎_elim (λ (k : r < high). none r a k)
          (λ (k : high ≤ r). ap test (let z : r ≡ high = omega (arith, k, b) in z) ∙ n) (cases_lt r high),
    )

    order : (low ≤ high) ⊎ (high < low)
    order = ⊎_elim (λ (l : high < low). inr l) (λ (l : low ≤ high). inl l) (cases_lt high low)

    next : (o : Option ℕ) × IsFirstOf test low high o → (o : Option ℕ) × IsFirstOf test low (suc high) o
    next (None, none) = here none (cases_Bool (test high)) order
    next (Some s, found) = (Some s, (found.0, (let l = found.1 in omega (arith, l)), found.2, found.3))

last-of : (test : ℕ → Bool) (low high : ℕ) → (o : Option ℕ) × IsLastOf test low high o
last-of test low zero = (None, λ r a b. absurd (omega (arith, b)))
last-of test low (suc high) = here (last-of test low high) (cases_Bool (test high)) order
  where
    order : (low ≤ high) ⊎ (high < low)
    order = ⊎_elim (λ (l : high < low). inr l) (λ (l : low ≤ high). inl l) (cases_lt high low)

    kept : (o : Option ℕ) × IsLastOf test low high o → test high ≡ false → (o : Option ℕ) × IsLastOf test low (suc high) o
    kept (None, none) n = (
      None,
      λ r a b. ⊎_elim (λ (k : r < high). none r a k)
          (λ (k : high ≤ r). ap test (let z : r ≡ high = omega (arith, k, b) in z) ∙ n) (cases_lt r high),
    )
    kept (Some s, found) n = (
      Some s,
      (
        found.0,
        (let l = found.1 in omega (arith, l)),
        found.2,
        λ r a b. ⊎_elim (λ (k : r < high). found.3 r a k)
            (λ (k : high ≤ r). ap test (let z : r ≡ high = omega (arith, k, b) in z) ∙ n) (cases_lt r high),
      ),
    )

    here : (o : Option ℕ) × IsLastOf test low high o → (test high ≡ true) ⊎ (test high ≡ false) → (low ≤ high) ⊎ (high < low)
        → (o : Option ℕ) × IsLastOf test low (suc high) o
    here found (inl y) (inl l) = (Some high, (l, omega arith, y, λ r a b. absurd (omega (arith, a, b))))
    here found (inl y) (inr l) = (None, λ r a b. absurd (omega (arith, a, b, l)))
    here found (inr n) l = kept found n

-- so where nothing blocks, there is no start on the way
pub no-next : (packets : List Packet) (c p q : ℕ) → ((s : ℕ) → ¬ (IsNextStart packets c p s × (s ≤ q)))
    → (r : ℕ) → p < r → r ≤ q → does_at Start c packets r ≡ false
no-next packets c p q free r a b = none (first-of (does_at Start c packets) (p + 1) (q + 1))
  where
    none : (o : Option ℕ) × IsFirstOf (does_at Start c packets) (p + 1) (q + 1) o → does_at Start c packets r ≡ false
    none (None, h) = h r (omega (arith, a)) (omega (arith, b))
    none (Some s, h) = absurd (free s (next-least packets c p q (Some s) h).0)

pub no-own : (packets : List Packet) (c p q : ℕ) → ((s : ℕ) → ¬ (IsOwnStart packets c p s × (q ≤ s)))
    → (r : ℕ) → q ≤ r → r ≤ p → does_at Start c packets r ≡ false
no-own packets c p q free r a b = none (last-of (does_at Start c packets) q (p + 1))
  where
    none : (o : Option ℕ) × IsLastOf (does_at Start c packets) q (p + 1) o → does_at Start c packets r ≡ false
    none (None, h) = h r a (omega (arith, b))
    none (Some s, h) = absurd (free s (own-least packets c p q (Some s) h).0)

pub no-reset : (packets : List Packet) (low high : ℕ) → ((s : ℕ) → ¬ IsResetBetween packets low high s)
    → (r : ℕ) → low < r → r < high → does_at Reset 0 packets r ≡ false
no-reset packets low high free r a b = ⊎_elim (λ (y : does_at Reset 0 packets r ≡ true). absurd (free r (y, a, b)))
    (λ (n : does_at Reset 0 packets r ≡ false). n) (cases_Bool (does_at Reset 0 packets r))
