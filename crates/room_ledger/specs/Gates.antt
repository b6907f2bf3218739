-- *Gates*: the bytes used, the permit to reset and the gates in each row, added up anew from the rows before it (this project's profile).
use Rattle.std.specs.Prelude.{◌≡◌, ℕ, zero, suc, ◌+◌, ◌-◌, ◌&&◌, ◌||◌, Bool, true, false}
use Rattle.std.specs.Prelude.{not, List, Option, Some, None, min, length, slice_get, nat_le, IsSomeAnd, if◌then◌else◌}
use Rattle.trace_model.specs.vidi_bits.Number.{has}
use Rattle.trace_model.specs.declared.row.Row.{Row}
use Rattle.trace_model.specs.Mask.{all_up}
use Rattle.trace_model.specs.Row.{completes, is_in_flight}
use Rattle.room_ledger.specs.Reservation.{event_len, reserved, reset_len, permit_room, AreRaised}

-- a plan of stalls: the store's capacity in bytes, how many bytes may drain after each row, None for all, and whether there may be resets
pub record Plan : Type 0 where
  pub capacity : ℕ
  pub allowance : ℕ → Option ℕ
  pub resets : Bool

-- of the bytes in the store those that drain: the lesser of the allowance and their number
abbrev pub drained : Option ℕ → ℕ → ℕ
drained None bytes = bytes
drained (Some allowance) bytes = min allowance bytes

-- those that stay
abbrev pub left : Option ℕ → ℕ → ℕ
left allowance bytes = bytes - drained allowance bytes

-- the length of the packet of a row, if there is one
abbrev pub row_len : List ℕ → Option Row → ℕ
row_len sizes None = 0
row_len sizes (Some row) = event_len sizes row.starts row.ends

-- whether a row is fresh: the design was reset before it
abbrev pub is_fresh : Option Row → Bool
is_fresh None = false
is_fresh (Some row) = row.fresh

-- whether row t is; where there may be no resets none is
abbrev pub fresh_at : Plan → List Row → ℕ → Bool
fresh_at plan rows t = plan.resets && is_fresh (slice_get rows t)

-- the bytes that are put after a row: those of its packet, and before a fresh row those of the reset's
abbrev pub put_len : List ℕ → Option Row → Bool → ℕ
put_len sizes row fresh = if fresh then row_len sizes row + reset_len else row_len sizes row

-- the bytes in the store in row t, which is fresh or isn't: after the row before it some are put, and then some drain
abbrev pub used_at : List ℕ → Plan → List Row → ℕ → Bool → ℕ
used_at sizes plan rows zero fresh = 0
used_at sizes plan rows (suc t) fresh = left (plan.allowance t)
    (used_at sizes plan rows t (fresh_at plan rows t) + put_len sizes (slice_get rows t) fresh)

-- a gate is kept where it was up and its channel didn't complete, but not that of a channel in flight before a fresh row
abbrev pub keeps : Row → Bool → ℕ → Bool
keeps row fresh c = has row.gates c && not ((fresh && is_in_flight row c) || completes row c)

-- what the kept gates reserve behind a row
abbrev pub kept_room : List ℕ → Option Row → Bool → ℕ
kept_room sizes None fresh = 0
kept_room sizes (Some row) fresh = reserved sizes (keeps row fresh) (is_in_flight row)

-- whether there is the permit to reset in row t, which is fresh or isn't: in row 0; where it was there and row t isn't fresh; and else where
-- the bytes used, all kept reservations and the room of a permit add up to at most the capacity
abbrev pub permit_at : List ℕ → Plan → List Row → ℕ → Bool → Bool
permit_at sizes plan rows zero fresh = true
permit_at sizes plan rows (suc t) fresh = (permit_at sizes plan rows t (fresh_at plan rows t) && not fresh)
    || nat_le (used_at sizes plan rows (suc t) fresh + kept_room sizes (slice_get rows t) fresh + permit_room plan.resets true) plan.capacity

-- the bytes in the store in row t, and what its permit reserves
abbrev pub charged_at : List ℕ → Plan → List Row → ℕ → Bool → ℕ
charged_at sizes plan rows t fresh = used_at sizes plan rows t fresh + permit_room plan.resets (permit_at sizes plan rows t fresh)

-- the gates are those of row t, which is fresh or isn't: all are up in row 0, and after each row some are kept and some go up
abbrev pub AreGates : List ℕ → Plan → List Row → ℕ → Bool → ℕ → Type 0
AreGates sizes plan rows zero fresh gates = gates ≡ all_up (length sizes)
AreGates sizes plan rows (suc t) fresh gates = IsSomeAnd (slice_get rows t)
    (λ row. AreRaised sizes plan.capacity (charged_at sizes plan rows (suc t) fresh) (keeps row fresh) (is_in_flight row) (has gates))
