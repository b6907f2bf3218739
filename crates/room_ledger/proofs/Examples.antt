-- *Gates* on worked examples: a store that doesn't drain, and a buffer of one place between two channels a and b of one byte each. Each
-- channel needs 2 * 5 + 1 = 11 bytes, and a reset 3.
use Rattle.std.proofs.Common.{◌≡◌, ℕ, Bool, true, false, List, [], ◌∷◌, Some, refl, lit<}
use Rattle.trace_model.specs.declared.row.Row.{Row}
use Rattle.room_ledger.specs.Reservation.{need, least}
use Rattle.room_ledger.specs.Gates.{Plan, used_at, permit_at, AreGates}
use Rattle.room_ledger.proofs.Existence.{are-gates-after}

abbrev sizes : List ℕ
sizes = 1 ∷ 1 ∷ []

abbrev plan : Bool → ℕ → Plan
plan resets capacity = record { capacity = capacity; allowance = λ _. Some 0; resets = resets }

abbrev row : Bool → ℕ → ℕ → ℕ → ℕ → ℕ → Row
row fresh gates valids readies starts ends = record {
  fresh = fresh;
  gates = gates;
  valids = valids;
  readies = readies;
  contents = [];
  starts = starts;
  ends = ends;
}

all_rooms : need sizes ≡ 22
all_rooms = refl

-- ---- without resets
abbrev still : Plan
still = plan false 28

-- a content goes in; the next goes in while the first comes out; the second is taken
abbrev rows : List Row
rows = row false 3 1 3 1 1 ∷ row false 3 3 2 3 2 ∷ row false 1 1 1 0 1 ∷ []

first : AreGates sizes still rows 0 false 3
first = refl

used_1 : used_at sizes still rows 1 false ≡ 6
used_1 = refl

-- 6 + 11 + 11 = 28: the gate of a goes up again
gates_1 : AreGates sizes still rows 1 false 3
gates_1 = are-gates-after sizes 28 6 (row false 3 1 3 1 1) false (lit< tt)

used_2 : used_at sizes still rows 2 false ≡ 13
used_2 = refl

-- 13 + 5 + 11 > 28: the gate of b stays down
gates_2 : AreGates sizes still rows 2 false 1
gates_2 = are-gates-after sizes 28 13 (row false 3 3 2 3 2) false (lit< tt)

used_3 : used_at sizes still rows 3 false ≡ 18
used_3 = refl

-- 18 + 11 > 28: both stay down
gates_3 : AreGates sizes still rows 3 false 0
gates_3 = are-gates-after sizes 28 18 (row false 1 1 1 0 1) false (lit< tt)

-- ---- with resets
abbrev turning : Plan
turning = plan true 28

least_room : least sizes true ≡ 25
least_room = refl

-- a and then b start and stay in flight; behind row 1 the design is reset, and behind each row after it
abbrev turns : List Row
turns = row false 3 1 0 1 0 ∷ row false 3 3 0 2 0 ∷ row true 0 0 0 0 0 ∷ row true 0 0 0 0 0 ∷ row true 0 0 0 0 0 ∷ row true 0 0 0 0 0 ∷ []

-- 6 + 5 + 11 + 3 <= 28: the gates and the permit stay
gates_turning_1 : AreGates sizes turning turns 1 false 3
gates_turning_1 = are-gates-after sizes 28 9 (row false 3 1 0 1 0) false (lit< tt)

-- 12 + 3: the packet of the reset is put
used_turning_2 : used_at sizes turning turns 2 true ≡ 15
used_turning_2 = refl

-- 15 + 3 <= 28: the permit is there again
permit_turning_2 : permit_at sizes turning turns 2 true ≡ true
permit_turning_2 = refl

-- 15 + 3 + 11 > 28: so both gates are down, though they were in flight
gates_turning_2 : AreGates sizes turning turns 2 true 0
gates_turning_2 = are-gates-after sizes 28 18 (row false 3 3 0 2 0) true (lit< tt)

-- without the reset both are kept
gates_going_2 : AreGates sizes turning turns 2 false 3
gates_going_2 = are-gates-after sizes 28 15 (row false 3 3 0 2 0) false (lit< tt)

-- 24 + 3 <= 28, and 27 + 3 > 28: the fifth reset leaves no permit
permit_turning_5 : permit_at sizes turning turns 5 true ≡ true
permit_turning_5 = refl

permit_turning_6 : permit_at sizes turning turns 6 true ≡ false
permit_turning_6 = refl
