-- Cursors behind so many completions of each channel in an epoch.
use Rattle.std.specs.Prelude.{◌≡◌, ◌≢◌, ℕ, ◌+◌, ◌^◌, ◌<◌, ◌≤◌, ◌↔◌, nat_lt, Bool, true, min, if◌then◌else◌, List, Some, length, slice_get, take}
use Rattle.trace_code.specs.vidi_bits.Number.{has}
use Rattle.trace_code.specs.trace_model.declared.event.Kind.{Kind}
use Rattle.trace_code.specs.trace_model.declared.event.Kind.TheVariants.{Start, End, Reset}
use Rattle.trace_code.specs.trace_model.declared.packet.Packet.{Packet}
use Rattle.trace_code.specs.trace_model.declared.row.Row.{Row}
use Rattle.trace_code.specs.trace_model.declared.trace.Trace.{Trace}
use Rattle.trace_code.specs.trace_model.Epoch.{epoch, resets, since_reset}
use Rattle.trace_code.specs.trace_model.Packet.{count}
use Rattle.trace_code.specs.trace_model.Row.{is_in_flight}
use Rattle.trace_code.specs.declared.cursor.Cursor.{Cursor}
use Rattle.trace_code.specs.Stands.{Stands, WalksOver}
use Rattle.replay_run.specs.declared.cursors.Cursors.{Cursors}
use Rattle.replay_run.specs.Epochs.{before_epoch}

-- the clock of an event in packet p: for each channel, the completions in the packets of its epoch before p
abbrev pub epoch_clock : List Packet → ℕ → ℕ → ℕ
epoch_clock packets p channel = count End channel (since_reset (take p packets))

-- the cursor stands at event n of this kind on channel c in epoch e, behind the epoch's last one where it has none
pub record IsBehind (t : Trace) (e : ℕ) (kind : Kind) (c n : ℕ) (k : Cursor) : Type 0 where
  pub over : WalksOver k kind c
  pub event : kind ≢ Reset
  pub stands : Stands k t (count kind c (before_epoch e t.packets) + min n (count kind c (epoch e t.packets)))

-- there is such an event, and the cursor stands at it
pub record IsNext (t : Trace) (e : ℕ) (kind : Kind) (c n : ℕ) (k : Cursor) : Type 0 where
  pub behind : IsBehind t e kind c n k
  pub there : n < count kind c (epoch e t.packets)

-- one of this kind for each channel, where `have` completions came in epoch e
pub record HasCursors (t : Trace) (e : ℕ) (kind : Kind) (have : ℕ → ℕ) (cursors : List Cursor) : Type 0 where
  pub many : length cursors ≡ length t.channels
  pub each : (c : ℕ) (k : Cursor) → slice_get cursors c ≡ Some k → IsBehind t e kind c (have c) k

-- the mask names the channels that have a further event of this kind in epoch e
pub record NamesMore (t : Trace) (e : ℕ) (kind : Kind) (have : ℕ → ℕ) (mask : ℕ) : Type 0 where
  pub below : mask < 2 ^ length t.channels
  pub more : (c : ℕ) → c < length t.channels → (has mask c ≡ true) ↔ (have c < count kind c (epoch e t.packets))

pub record AreAt (t : Trace) (e : ℕ) (kind : Kind) (have : ℕ → ℕ) (cursors : List Cursor) (mask : ℕ) : Type 0 where
  pub all : HasCursors t e kind have cursors
  pub named : NamesMore t e kind have mask

-- the epoch in which cursors are
abbrev pub epoch_at : Trace → Cursors → List Packet
epoch_at t cursors = epoch cursors.epoch t.packets

-- whether there is a later one
abbrev pub has_later : Trace → Cursors → Bool
has_later t cursors = nat_lt cursors.epoch (resets t.packets)

-- one of each kind for each channel, where `have` completions came in their epoch, and one at the reset behind it, at the end where there is none
pub record AreBehind (t : Trace) (have : ℕ → ℕ) (cursors : Cursors) : Type 0 where
  pub starts : AreAt t cursors.epoch Start have cursors.starts.cursors.items cursors.starts.more
  pub ends : AreAt t cursors.epoch End have cursors.ends.cursors.items cursors.ends.more
  pub over : WalksOver cursors.reset Reset 0
  pub reset : Stands cursors.reset t cursors.epoch
  pub within : cursors.epoch ≤ resets t.packets

-- nothing has completed
abbrev pub none_yet : ℕ → ℕ
none_yet c = 0

-- channel c has no further event in an epoch: `have` completions came, and one start more where it is in flight after the last row
pub record IsDone (packets : List Packet) (have : ℕ → ℕ) (last : Row) (c : ℕ) : Type 0 where
  pub ends : count End c packets ≤ have c
  pub starts : count Start c packets ≤ have c + (if is_in_flight last c then 1 else 0)

-- a channel that these name has no further event but a start of an outward one: what has to come before the reset behind the epoch has come
pub record IsShownOf (inward : ℕ) (packets : List Packet) (have : ℕ → ℕ) (last : Row) (c : ℕ) : Type 0 where
  pub ends : count End c packets ≤ have c
  pub starts : has inward c ≡ true → count Start c packets ≤ have c + (if is_in_flight last c then 1 else 0)
