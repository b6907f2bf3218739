-- What follows from the definitions of rows and traces.
use Rattle.std.specs.Prelude.{◌≡◌, ℕ, suc, ◌<◌, ◌≤◌, true, List, [], ◌∷◌, ◌++◌, Some, length, take, slice_get, if◌then◌else◌}
use Rattle.trace_model.specs.declared.channel.Channel.{Channel}
use Rattle.trace_model.specs.declared.event.Kind.TheVariants.{Start, End}
use Rattle.trace_model.specs.declared.row.Row.{Row}
use Rattle.trace_model.specs.declared.packet.TheConstants.{GAP_LIMIT}
use Rattle.trace_model.specs.Counting.{IsNth}
use Rattle.trace_model.specs.Epoch.{stretch}
use Rattle.trace_model.specs.Recording.{has_event, packet_of, packets_of, recorded, row_does, trace_of, transactions}
use Rattle.trace_model.specs.Row.{AreRows, is_in_flight, row_before, sink_valid, IsOver}
use Rattle.trace_model.specs.Trace.{IsWellFormed}

-- a row more adds its packet, where it has an event
abbrev pub RowAddsItsPacket : Type 0
RowAddsItsPacket = (channels : List Channel) (rows : List Row) (row : Row)
    → packets_of channels (rows ++ row ∷ []) ≡ packets_of channels rows ++ (if has_event row then packet_of channels row ∷ [] else [])

-- the packets record each transaction of a channel once and in order, with its content
abbrev pub RecordedOnce : Type 0
RecordedOnce = (channels : List Channel) (rows : List Row) → AreRows channels rows → (c : ℕ)
    → recorded channels (packets_of channels rows) c ≡ transactions channels rows c

-- so does the trace of rows, with its gaps and its resets
abbrev pub TraceRecordsOnce : Type 0
TraceRecordsOnce = (channels : List Channel) (rows : List Row)
    → ((t : ℕ) (row : Row) → slice_get rows t ≡ Some row → IsOver channels row) → (c : ℕ)
    → recorded channels (trace_of channels rows).packets c ≡ transactions channels rows c

-- what is in flight after a row is still shown to the sink in the next one: no valid is taken back before its transfer
abbrev pub KeepsInFlight : List Row → Type 0
KeepsInFlight rows = (t : ℕ) (before row : Row) → row_before rows t ≡ Some before → slice_get rows t ≡ Some row → (c : ℕ)
    → is_in_flight before c ≡ true → sink_valid row c ≡ true

-- at each place the rows since the last reset are rows of these channels, in which no valid is taken back
abbrev pub AreStretches : List Channel → List Row → Type 0
AreStretches channels rows = (k : ℕ) → k ≤ length rows → AreRows channels (stretch (take k rows)) × KeepsInFlight (stretch (take k rows))

-- such rows have a well-formed trace, where there are too few for a gap that is too long
abbrev pub RowsAreWellFormed : Type 0
RowsAreWellFormed = (channels : List Channel) (rows : List Row) → length rows < GAP_LIMIT → AreStretches channels rows
    → IsWellFormed (trace_of channels rows)

-- the j-th transaction completes between the j-th start and the one after it
pub record CompletesBetween (rows : List Row) (c j t u : ℕ) : Type 0 where
  pub s : ℕ
  pub row : Row
  pub ends : IsNth (row_does End c) rows j s row
  pub after : t ≤ s
  pub before : s < u

abbrev pub StartsWaitForEnds : Type 0
StartsWaitForEnds = (channels : List Channel) (rows : List Row) → AreRows channels rows → KeepsInFlight rows
    → (c j t u : ℕ) (first second : Row)
    → IsNth (row_does Start c) rows j t first → IsNth (row_does Start c) rows (suc j) u second → CompletesBetween rows c j t u
