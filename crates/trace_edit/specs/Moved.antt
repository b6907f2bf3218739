-- *Moved*: a completion brought next to another one, in a packet of its own (this project's profile).
use Rattle.std.specs.Prelude.{◌≡◌, ℕ, ◌^◌, ◌<◌, ◌≤◌, ◌⊎◌, ◌==◌, ◌&&◌, not, Bool, true, false, nat_lt, if◌then◌else◌}
use Rattle.std.specs.Prelude.{List, [], ◌∷◌, ◌++◌, slice_get, Option, Some, None, Result, Ok, Err, bit_xor}
use Rattle.std.specs.List.{flat_map, enumerate_from}
use Rattle.trace_model.specs.declared.event.Event.{Event}
use Rattle.trace_model.specs.declared.event.Kind.{Kind}
use Rattle.trace_model.specs.declared.event.Kind.TheVariants.{Start, End, Reset}
use Rattle.trace_model.specs.declared.packet.Packet.{Packet}
use Rattle.trace_model.specs.declared.trace.Trace.{Trace}
use Rattle.trace_model.specs.Counting.{IsNth}
use Rattle.trace_model.specs.Packet.{count, does, is_bare, plain_packet}
use Rattle.trace_edit.specs.declared.error.EditError.{EditError}
use Rattle.trace_edit.specs.declared.error.EditError.TheVariants.{NoEnd, SameEnd, Blocked, Memory}
use Rattle.trace_edit.specs.declared.place.Move.{Move}

-- ---- where completions stand
-- a completion stands in packet p: it is the one with its number of all those of its channel
abbrev pub EndsAt : List Packet → Event → ℕ → Type 0
EndsAt packets e p = (x : Packet) × IsNth (does End e.channel) packets e.index p x

abbrev pub HasNoEnd : List Packet → Event → Type 0
HasNoEnd packets e = count End e.channel packets ≤ e.index

abbrev pub IsSame : Event → Event → Type 0
IsSame a b = (a.channel ≡ b.channel) × (a.index ≡ b.index)

-- one completion is to be moved next to the other
pub record IsMove (packets : List Packet) (end other : Event) (after : Bool) (m : Move) : Type 0 where
  pub channel : m.channel ≡ end.channel
  pub side : m.after ≡ after
  pub from : EndsAt packets end m.from
  pub to : EndsAt packets other m.to
  pub differ : ¬ IsSame end other

-- ---- the trace
-- whether it stands on that side of the other one already
abbrev pub stays : Move → Bool
stays m = if m.after then nat_lt m.to m.from else nat_lt m.from m.to

-- a packet without channel c's completion, which it has; without events it is dropped
abbrev pub without : ℕ → Packet → List Packet
without c x = if is_bare x.starts (bit_xor x.ends (2 ^ c)) then [] else record x { ends = bit_xor x.ends (2 ^ c) } ∷ []

-- channel c completes, and nothing else
abbrev pub alone : ℕ → Packet
alone c = plain_packet 0 (2 ^ c) []

-- what stands in place of packet x, the one with number s
abbrev pub placed : Move → ℕ × Packet → List Packet
placed m (s, x) = (if s == m.to && not m.after then alone m.channel ∷ [] else [])
    ++ ((if s == m.from then without m.channel x else x ∷ []) ++ (if s == m.to && m.after then alone m.channel ∷ [] else []))

abbrev pub moved : Move → List Packet → List Packet
moved m packets = if stays m then packets else flat_map (placed m) (enumerate_from 0 packets)

-- ---- what blocks
abbrev pub shows : Kind → ℕ → Option Packet → Bool
shows kind c None = false
shows kind c (Some x) = does kind c x

-- whether packet s has a start or an end of channel c, or is a reset
abbrev pub does_at : Kind → ℕ → List Packet → ℕ → Bool
does_at kind c packets s = shows kind c (slice_get packets s)

-- the packet of channel c's start that follows a completion in packet p
pub record IsNextStart (packets : List Packet) (c p s : ℕ) : Type 0 where
  pub start : does_at Start c packets s ≡ true
  pub behind : p < s
  pub first : (r : ℕ) → p < r → r < s → does_at Start c packets r ≡ false

-- the packet of the start of a completion in packet p
pub record IsOwnStart (packets : List Packet) (c p s : ℕ) : Type 0 where
  pub start : does_at Start c packets s ≡ true
  pub until : s ≤ p
  pub last : (r : ℕ) → s < r → r ≤ p → does_at Start c packets r ≡ false

abbrev pub IsResetBetween : List Packet → ℕ → ℕ → ℕ → Type 0
IsResetBetween packets low high s = (does_at Reset 0 packets s ≡ true) × (low < s) × (s < high)

abbrev pub BlocksOn : Bool → List Packet → Move → ℕ → Type 0
BlocksOn true packets m s = (IsNextStart packets m.channel m.from s × (s ≤ m.to)) ⊎ IsResetBetween packets m.from m.to s
BlocksOn false packets m s = (IsOwnStart packets m.channel m.from s × (m.to ≤ s)) ⊎ IsResetBetween packets m.to m.from s

-- packet s stands against the move
abbrev pub Blocks : List Packet → Move → ℕ → Type 0
Blocks packets m s = (stays m ≡ false) × BlocksOn m.after packets m s

abbrev pub IsFree : List Packet → Move → Type 0
IsFree packets m = (s : ℕ) → ¬ Blocks packets m s

-- the lowest packet that does
abbrev pub IsBlockedBy : List Packet → Move → ℕ → Type 0
IsBlockedBy packets m s = Blocks packets m s × ((r : ℕ) → Blocks packets m r → s ≤ r)

-- ---- what `move_end` answers
abbrev pub IsRefused : List Packet → Event → Event → Bool → EditError → Type 0
IsRefused packets end other after (NoEnd which) = ((which ≡ 1) × HasNoEnd packets end)
    ⊎ ((which ≡ 2) × ((p : ℕ) × EndsAt packets end p) × HasNoEnd packets other)
IsRefused packets end other after SameEnd = ((p : ℕ) × EndsAt packets end p) × IsSame end other
IsRefused packets end other after (Blocked s) = (m : Move) × IsMove packets end other after m × IsBlockedBy packets m s
IsRefused packets end other after Memory = Unit {0}

abbrev pub Moves : Trace → Event → Event → Bool → Result Trace EditError → Type 0
Moves t end other after (Ok u) = (m : Move) × IsMove t.packets end other after m × IsFree t.packets m
    × (u ≡ record t { packets = moved m t.packets })
Moves t end other after (Err error) = IsRefused t.packets end other after error
