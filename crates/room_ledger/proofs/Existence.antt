-- Each row has gates: those that go up one after the other.
use Rattle.std.proofs.Common.{◌≡◌, ℕ, zero, suc, ◌+◌, ◌-◌, ◌%◌, ◌<◌, ◌≤◌, ◌^◌, ◌&&◌, ◌||◌, ◌==◌, Bool, true, false, not, cond, List, Option, Some}
use Rattle.std.proofs.Common.{None, length, get_or, slice_get, bit_and, refl, ap, sym, subst, ◌∙◌, ⊎_elim, arith}
use Rattle.std.specs.Prelude.{IsSomeAnd}
use Rattle.std.specs.Int.{bit_at}
use Rattle.std.specs.Int.RustNames.{bit_xor}
use Rattle.std.proofs.lemmas.Bool.{cases_lt}
use Rattle.std.proofs.lemmas.Nat.{and_le_l}
use Rattle.std.proofs.lemmas.Nat.Bits.{bit_at_xor, bit_at_ones}
use Rattle.std.proofs.lemmas.Option.{slice_get_cases}
use Rattle.trace_model.specs.vidi_bits.Number.{has}
use Rattle.trace_model.proofs.vidi_bits_lemmas.BitLemmas.{has-above}
use Rattle.trace_model.specs.declared.row.Row.{Row}
use Rattle.trace_model.specs.Length.{head_len}
use Rattle.trace_model.specs.Mask.{all_up}
use Rattle.trace_model.specs.Row.{completes, is_in_flight}
use Rattle.room_ledger.specs.Reservation.{AreRaised, reserved}
use Rattle.room_ledger.specs.Gates.{Plan, charged_at, keeps, AreGates}
use Rattle.room_ledger.specs.Raising.{raise}
use Rattle.room_ledger.proofs.Masks.{bit-is, has-and}
use Rattle.room_ledger.proofs.Raising.{raised-from}
use Rattle.room_ledger.proofs.Reserving.{are-raised}

-- ---- the gates that are kept, as a mask
abbrev completed : Row → ℕ
completed row = bit_and (bit_and row.valids row.gates) row.readies

-- the channels that lose their gate: before a fresh row all of which a valid is seen
abbrev lost : Row → Bool → ℕ
lost row fresh = cond fresh row.valids (completed row)

abbrev kept : ℕ → Row → Bool → ℕ
kept n row fresh = bit_and row.gates (bit_xor (2 ^ n - 1) (lost row fresh))

completed-is : (row : Row) (c : ℕ) → has (completed row) c ≡ completes row c
completed-is row c = has-and (bit_and row.valids row.gates) row.readies c
    ∙ ap (λ b. b && has row.readies c) (has-and row.valids row.gates c)

other-bits : (b : Bool) → ((1 + cond b 1 0) % 2 == 1) ≡ not b
other-bits true = refl
other-bits false = refl

xor-of : (x y : ℕ) (b : Bool) → x ≡ 1 → y ≡ cond b 1 0 → ((x + y) % 2 == 1) ≡ not b
xor-of x y b e f = rw (e, f) (other-bits b)

has-other : (n mask c : ℕ) → c < n → has (bit_xor (2 ^ n - 1) mask) c ≡ not (has mask c)
has-other n mask c l = ap (λ x. x == 1) (bit_at_xor (2 ^ n - 1) mask c)
    ∙ xor-of (bit_at (2 ^ n - 1) c) (bit_at mask c) (has mask c) (bit_at_ones n c l) (bit-is mask c _ refl)

neither : (g a b : Bool) → g ≡ false → (g && a) ≡ (g && b)
neither g a b h = rw h refl

-- where a gate is up, a valid that is seen completes or is in flight
seen : (g v r : Bool) → (g && not v) ≡ (g && not (((v && g) && not ((v && g) && r)) || ((v && g) && r)))
seen false v r = refl
seen true false r = refl
seen true true true = refl
seen true true false = refl

lost-is : (row : Row) (fresh : Bool) (c : ℕ) → (has row.gates c && not (has (lost row fresh) c)) ≡ keeps row fresh c
lost-is row true c = seen (has row.gates c) (has row.valids c) (has row.readies c)
lost-is row false c = ap (λ b. has row.gates c && not b) (completed-is row c)

kept-is : (n : ℕ) (row : Row) (fresh : Bool) → row.gates < 2 ^ n → (c : ℕ) → has (kept n row fresh) c ≡ keeps row fresh c
kept-is n row fresh l c = has-and row.gates (bit_xor (2 ^ n - 1) (lost row fresh)) c ∙ ⊎_elim
    (λ (m : c < n). ap (λ b. has row.gates c && b) (has-other n (lost row fresh) c m) ∙ lost-is row fresh c)
    (λ (m : n ≤ c). neither (has row.gates c) (has (bit_xor (2 ^ n - 1) (lost row fresh)) c)
    (not ((fresh && is_in_flight row c) || completes row c)) (has-above row.gates n c l m))
    (cases_lt c n)

kept-below : (n : ℕ) (row : Row) (fresh : Bool) → row.gates < 2 ^ n → kept n row fresh < 2 ^ n
kept-below n row fresh l = omega (arith, and_le_l row.gates (bit_xor (2 ^ n - 1) (lost row fresh)))

-- ---- the gates after a row
abbrev pub gates-after : List ℕ → ℕ → ℕ → Row → Bool → ℕ
gates-after sizes capacity used row fresh = raise (head_len (length sizes)) capacity sizes 0
    (used + reserved sizes (has (kept (length sizes) row fresh)) (is_in_flight row)) (kept (length sizes) row fresh)

pub are-gates-after : (sizes : List ℕ) (capacity used : ℕ) (row : Row) (fresh : Bool) → row.gates < 2 ^ length sizes
    → AreRaised sizes capacity used (keeps row fresh) (is_in_flight row) (has (gates-after sizes capacity used row fresh))
are-gates-after sizes capacity used row fresh l =
    let mask = kept (length sizes) row fresh in
    let gates = gates-after sizes capacity used row fresh in
    let is = are-raised capacity used sizes mask gates (is_in_flight row) (kept-below (length sizes) row fresh l)
    (raised-from (head_len (length sizes)) capacity sizes 0 (used + reserved sizes (has mask) (is_in_flight row)) mask) in
    subst (λ (k : ℕ → Bool). AreRaised sizes capacity used k (is_in_flight row) (has gates)) (λ i c. kept-is (length sizes) row fresh l c i)
    is

pub has-gates : (sizes : List ℕ) (plan : Plan) (rows : List Row) (t : ℕ) (fresh : Bool)
    → ((u : ℕ) (row : Row) → slice_get rows u ≡ Some row → row.gates < 2 ^ length sizes) → t ≤ length rows
    → (gates : ℕ) × AreGates sizes plan rows t fresh gates
has-gates sizes plan rows zero fresh over l = (all_up (length sizes), refl)
has-gates sizes plan rows (suc t) fresh over l = ⊎_elim
    (λ (f : (row : Row) × (t < length rows) × (slice_get rows t ≡ Some row) × (get_or rows t row ≡ row)).
    let used = charged_at sizes plan rows (suc t) fresh in
    let gates = gates-after sizes plan.capacity used f.0 fresh in
    let is = are-gates-after sizes plan.capacity used f.0 fresh (over t f.0 f.2) in (
      gates,
      subst (λ (o : Option Row). IsSomeAnd o (λ row. AreRaised sizes plan.capacity used (keeps row fresh) (is_in_flight row) (has gates)))
          (sym f.2) is,
    ))
    (λ (n : (length rows ≤ t) × (slice_get rows t ≡ None)). absurd (omega (arith, n.0)))
    (slice_get_cases rows t).1
