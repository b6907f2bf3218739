-- The ledger beside *Gates*, and what *Gates* alone says.
use Rattle.std.specs.Prelude.{◌≡◌, ℕ, suc, ◌^◌, ◌<◌, ◌≤◌, ◌&&◌, Bool, true, false, List, [], ◌∷◌, ◌++◌, Option, Some, None, length, map, slice_get}
use Rattle.std.specs.Prelude.{if◌then◌else◌}
use Rattle.trace_model.specs.vidi_bits.Number.{has}
use Rattle.trace_model.specs.declared.channel.Channel.{Channel}
use Rattle.trace_model.specs.declared.row.Row.{Row}
use Rattle.trace_model.specs.Channel.{content_bytes}
use Rattle.trace_model.specs.Length.{packet_len}
use Rattle.trace_model.specs.Mask.{all_up}
use Rattle.trace_model.specs.Row.{IsMarked, flies_after, row_before, sink_valid}
use Rattle.room_ledger.specs.Reservation.{least, event_len}
use Rattle.room_ledger.specs.Gates.{Plan, left, fresh_at, used_at, permit_at, AreGates}
use Rattle.room_ledger.specs.Ledger.{Ledger, MayEmit, Emitted, IsReset, Regranted, empty, may_reset}

-- the row out of which a transaction may be in flight into the next one, which is fresh or isn't: into a fresh row none is
abbrev pub before_next : List Row → Bool → Option Row
before_next rows fresh = if fresh then None else row_before rows (length rows)

-- the ledger is *Gates*'s after these rows, where the next one is fresh, as it can be where there may be resets, or isn't: its bytes used, its
-- permit and its gates are those of that row
pub record StandsAfter (sizes : List ℕ) (plan : Plan) (rows : List Row) (fresh : Bool) (l : Ledger) : Type 0 where
  pub channels : l.sizes ≡ sizes
  pub resets : l.resets ≡ plan.resets
  pub capacity : l.capacity ≡ plan.capacity
  pub turns : fresh ≡ true → plan.resets ≡ true
  pub used : l.used ≡ used_at sizes plan rows (length rows) fresh
  pub permit : l.permit ≡ permit_at sizes plan rows (length rows) fresh
  pub gates : AreGates sizes plan rows (length rows) fresh l.gates
  pub flying : (c : ℕ) → has l.flying c ≡ flies_after (before_next rows fresh) c

-- a row that may come next, fresh or not: its gates are the ledger's, its starts and ends are those of *Row*, and what is in flight keeps its
-- valid
pub record MayFollow (l : Ledger) (fresh : Bool) (before : Option Row) (row : Row) : Type 0 where
  pub mark : (l.resets && row.fresh) ≡ fresh
  pub gates : row.gates ≡ l.gates
  pub marked : IsMarked before row
  pub stays : (c : ℕ) → flies_after before c ≡ true → sink_valid row c ≡ true

-- what drains in the cycle behind these rows
abbrev pub after_drain : Plan → List Row → Ledger → Ledger
after_drain plan rows l = record l { used = left (plan.allowance (length rows)) l.used }

-- Over every list of rows, `emit`, `reset` before each row that is fresh, `drain` and `regrant` after each of them keep the ledger at *Gates*.
-- Each row's `emit` is lawful, each lawful `emit` is that of a row, and `reset` is lawful exactly where there may be resets and *Gates* has the
-- permit.
pub record KeepsGates (sizes : List ℕ) (plan : Plan) : Type 0 where
  pub first : StandsAfter sizes plan [] false (empty sizes plan.resets plan.capacity)
  pub lawful : (rows : List Row) (fresh : Bool) (row : Row) (l : Ledger) → StandsAfter sizes plan rows fresh l
      → MayFollow l fresh (before_next rows fresh) row → MayEmit l row.starts row.ends
  pub shown : (rows : List Row) (fresh : Bool) (l : Ledger) (starts ends : ℕ) → StandsAfter sizes plan rows fresh l → MayEmit l starts ends
      → (row : Row) × (row.starts ≡ starts) × (row.ends ≡ ends) × MayFollow l fresh (before_next rows fresh) row
  pub permit : (rows : List Row) (fresh : Bool) (l emitted : Ledger) (starts ends : ℕ) → StandsAfter sizes plan rows fresh l
      → Emitted l starts ends emitted → may_reset emitted ≡ (plan.resets && permit_at sizes plan rows (length rows) fresh)
  pub next : (rows : List Row) (fresh : Bool) (row : Row) (l emitted new : Ledger) → StandsAfter sizes plan rows fresh l
      → MayFollow l fresh (before_next rows fresh) row → Emitted l row.starts row.ends emitted
      → Regranted (after_drain plan rows emitted) new → StandsAfter sizes plan (rows ++ row ∷ []) false new
  pub reset : (rows : List Row) (fresh : Bool) (row : Row) (l emitted reset new : Ledger) → StandsAfter sizes plan rows fresh l
      → MayFollow l fresh (before_next rows fresh) row → Emitted l row.starts row.ends emitted
      → may_reset emitted ≡ true → IsReset emitted reset → Regranted (after_drain plan rows reset) new
      → StandsAfter sizes plan (rows ++ row ∷ []) true new

abbrev pub RoomKeepsGates : Type 0
RoomKeepsGates = (sizes : List ℕ) (plan : Plan) → KeepsGates sizes plan

-- a gate is down only while bytes wait
abbrev pub DownOnlyWhileBytesWait : Type 0
DownOnlyWhileBytesWait = (sizes : List ℕ) (plan : Plan) (rows : List Row) (t : ℕ) (fresh : Bool) (gates c : ℕ)
    → least sizes plan.resets ≤ plan.capacity → AreGates sizes plan rows t fresh gates → c < length sizes → has gates c ≡ false
    → 0 < used_at sizes plan rows t fresh

-- and so is the permit to reset
abbrev pub PermitDownOnlyWhileBytesWait : Type 0
PermitDownOnlyWhileBytesWait = (sizes : List ℕ) (plan : Plan) (rows : List Row) (t : ℕ) (fresh : Bool)
    → least sizes plan.resets ≤ plan.capacity → permit_at sizes plan rows t fresh ≡ false → 0 < used_at sizes plan rows t fresh

-- after each row everything drains
abbrev pub EverythingDrains : List ℕ → Plan → List Row → Type 0
EverythingDrains sizes plan rows = (t : ℕ) → used_at sizes plan rows (suc t) (fresh_at plan rows (suc t)) ≡ 0

-- where everything drains in each cycle, all gates stay up
abbrev pub AllStayUp : Type 0
AllStayUp = (sizes : List ℕ) (plan : Plan) (rows : List Row) (t gates : ℕ) → least sizes plan.resets ≤ plan.capacity
    → EverythingDrains sizes plan rows → AreGates sizes plan rows t (fresh_at plan rows t) gates → gates ≡ all_up (length sizes)

-- each row has exactly one set of gates, where the gates of the rows are those of channels
abbrev pub OneSetOfGates : Type 0
OneSetOfGates = (sizes : List ℕ) (plan : Plan) (rows : List Row) (t : ℕ) (fresh : Bool)
    → ((u : ℕ) (row : Row) → slice_get rows u ≡ Some row → row.gates < 2 ^ length sizes) → t ≤ length rows
    → ((gates : ℕ) × AreGates sizes plan rows t fresh gates)
    × ((a b : ℕ) → AreGates sizes plan rows t fresh a → AreGates sizes plan rows t fresh b → a ≡ b)

-- the length of a packet by the sizes of the contents is that by the channels
abbrev pub SameLength : Type 0
SameLength = (channels : List Channel) (starts ends : ℕ)
    → packet_len channels starts ends ≡ event_len (map content_bytes channels) starts ends
