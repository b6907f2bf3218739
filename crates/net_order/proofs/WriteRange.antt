-- The bits that code in range writes are bits of nets.
use Rattle.std.proofs.Common.{◌≡◌, ℕ, zero, suc, ◌+◌, ◌<◌, ◌≤◌, true, List, [], ◌∷◌, ◌⊎◌}
use Rattle.std.proofs.Common.{IsTrue, length, get_or, ⊎_elim, sym, subst, ◌∙◌, arith}
use Rattle.std.specs.List.{AllByRecursion}
use Rattle.std.proofs.lemmas.Bool.{cases_lt, eqb-true, ltb-true, leb-true, or_cases, and_parts}
use Rattle.net_design.proofs.LawfulCode.{width_past}
use Rattle.net_design.specs.declared.rhs.Span.{Span}
use Rattle.net_design.specs.declared.act.Place.{Place}
use Rattle.net_design.specs.declared.act.Place.TheVariants.{Bits, BitsFrom, Word, WordFrom}
use Rattle.net_design.specs.declared.act.Act.{Act, Set, Read, Branch', Row_of-Act, end_of-Act, more_of-Act, Row_of-Guard, end_of-Guard}
use Rattle.net_design.specs.declared.act.Act.{more_of-Guard}
use Rattle.net_design.specs.declared.design.Driver.{Driver}
use Rattle.net_design.specs.declared.design.Design.{Design}
use Rattle.net_design.specs.Sized.{IsPlace, IsAct, IsGuardRow, IsActRow}
use Rattle.net_design.specs.Bits.{bits_of, named, place_writes, target_writes, writes, writes_guards, writes_row, block_writes}
use Rattle.net_design.specs.Settled.{net_width}
use Rattle.net_design.specs.Lawful.{IsLawful, IsDriver, IsInRange, is_span, is_room}
use Rattle.net_order.specs.Order.{writes_of}

-- a net that has a bit is there
width_there : (d : Design) (m k : ℕ) → k < net_width d m → m < length d.nets
width_there d m k l = ⊎_elim
    (λ (h : m < length d.nets). h)
    (λ (g : length d.nets ≤ m). let none : net_width d m ≡ 0 = width_past d.nets m g in absurd (omega arith))
    (cases_lt m (length d.nets))

module _ (d : Design) where
  abbrev InRange : Place → Type 0
  InRange p = IsPlace (λ s. IsTrue (is_span d s)) (λ r n. IsTrue (is_room d r n)) p

  span_bit : (s : Span) → IsTrue (is_span d s) → (m k : ℕ) → bits_of s m k ≡ true → k < net_width d m
  span_bit s h m k b =
      let t = and_parts _ _ h in
      let wide : s.low + s.width ≤ net_width d s.net = leb-true _ _ t.1 in
      let p = and_parts _ _ b in
      let q = and_parts _ _ p.1 in
      let here : s.net ≡ m = eqb-true _ _ p.0 in
      let below : k < s.low + s.width = ltb-true _ _ q.1 in
      subst (λ n. k < net_width d n) here (omega arith)

  place_bit : (p : Place) → InRange p → (m k : ℕ) → place_writes p m k ≡ true → k < net_width d m
  place_bit (Bits s n) h m k b = span_bit s h.2 m k b
  place_bit (BitsFrom s i w) h m k b = span_bit s h.2 m k b
  place_bit (Word r i low w n) h m k b = absurd cc
  place_bit (WordFrom r i size j w) h m k b = absurd cc

  target_bit : (ps : List Place) → AllByRecursion InRange ps → (m k : ℕ) → target_writes ps m k ≡ true → k < net_width d m
  target_bit [] h m k b = absurd cc
  target_bit (p ∷ ps) h m k b = ⊎_elim (place_bit p h.0 m k) (target_bit ps h.1 m k) (or_cases (place_writes p m k)
      (target_writes ps m k) b)

  mutual
    act_bit : (a : Act) → IsAct (λ s. IsTrue (is_span d s)) (λ r n. IsTrue (is_room d r n)) a → (m k : ℕ) → writes a m k ≡ true
        → k < net_width d m
    act_bit (Set target e) h m k b = target_bit target h.1 m k b
    act_bit (Read e) h m k b = absurd cc
    act_bit (Branch' n guards l otherwise) h m k b =
        ⊎_elim (guards_bit guards h.0 m k) (row_bit otherwise h.1 m k) (or_cases (writes_guards guards m k) (writes_row otherwise m k) b)

    guards_bit : {n : _} → (row : Row_of-Guard n) → IsGuardRow (λ s. IsTrue (is_span d s)) (λ r n. IsTrue (is_room d r n)) row → (m k : ℕ)
        → writes_guards row m k ≡ true → k < net_width d m
    guards_bit end_of-Guard h m k b = absurd cc
    guards_bit (more_of-Guard c l body rest) h m k b =
        ⊎_elim (row_bit body h.0.1 m k) (guards_bit rest h.1 m k) (or_cases (writes_row body m k) (writes_guards rest m k) b)

    row_bit : {n : _} → (row : Row_of-Act n) → IsActRow (λ s. IsTrue (is_span d s)) (λ r n. IsTrue (is_room d r n)) row → (m k : ℕ)
        → writes_row row m k ≡ true → k < net_width d m
    row_bit end_of-Act h m k b = absurd cc
    row_bit (more_of-Act a rest) h m k b =
        ⊎_elim (act_bit a h.0 m k) (row_bit rest h.1 m k) (or_cases (writes a m k) (writes_row rest m k) b)

  pub block_bit : (acts : List Act) → IsInRange d acts → (m k : ℕ) → block_writes acts m k ≡ true → k < net_width d m
  block_bit [] h m k b = absurd cc
  block_bit (a ∷ rest) h m k b = ⊎_elim (act_bit a h.0 m k) (block_bit rest h.1 m k) (or_cases (writes a m k) (block_writes rest m k) b)

-- ---- drivers by number
pub driver_of : (d : Design) → IsLawful d → (P : ℕ → ℕ → Type 0)
    → ((x : Driver) → IsDriver d x → (m k : ℕ) → named x.code.writes m k ≡ true → P m k)
    → (xs : List Driver) → ((i : ℕ) (x : Driver) → i < length xs → IsDriver d (get_or xs i x)) → (j m k : ℕ) → writes_of xs j m k ≡ true
    → P m k
driver_of d law P f [] all j m k h = absurd cc
driver_of d law P f (x ∷ xs) all zero m k h = f x (all zero x (omega arith)) m k h
driver_of d law P f (x ∷ xs) all (suc j) m k h = driver_of d law P f xs (λ i y l. all (suc i) y (omega arith)) j m k h

pub writes_are_bits : (d : Design) → IsLawful d → (j m k : ℕ) → writes_of d.drivers j m k ≡ true → k < net_width d m
writes_are_bits d law j m k h =
    driver_of d law (λ m k. k < net_width d m)
    (λ x is m k w. block_bit d x.code.acts is.code.acts m k (sym (is.code.bits.writes m k) ∙ w))
    d.drivers (λ i x l. law.drivers i x l) j m k h

pub writes_in_range : (d : Design) → IsLawful d → (j m k : ℕ) → writes_of d.drivers j m k ≡ true → m < length d.nets
writes_in_range d law j m k h = width_there d m k (writes_are_bits d law j m k h)
