-- Where a recording stands between two cycles, and where a failed push has cut it off (this project's profile).
use Rattle.std.specs.Prelude.{◌≡◌, ℕ, ◌+◌, ◌-◌, ◌^◌, ◌<◌, ◌≤◌, not, Bool, true, false, if◌then◌else◌, List, [], ◌++◌, Option, None, Some, length}
use Rattle.std.specs.Borrow.{GName}
use Rattle.std.specs.Io.KnownBytes.{append_known}
use Rattle.trace_code.specs.trace_model.declared.channel.Channel.{Channel}
use Rattle.trace_code.specs.trace_model.declared.row.Row.{Row}
use Rattle.trace_code.specs.trace_model.Epoch.{restarts}
use Rattle.trace_code.specs.trace_model.Recording.{end_of, reset_packet, trace_of}
use Rattle.trace_code.specs.trace_model.Row.{all_widths, row_before}
use Rattle.trace_code.specs.Encoding.{header_bytes, packet_bytes, rows_bytes}
use Rattle.net_design.specs.declared.design.Design.{Design}
use Rattle.net_design.specs.declared.values.Values.{Values}
use Rattle.room_ledger.specs.Gates.{Plan, fresh_at}
use Rattle.room_ledger.specs.Laws.{StandsAfter}
use Rattle.room_ledger.specs.Ledger.{Ledger, IsReset}
use Rattle.env_script.specs.chan_map.declared.pins.Map.{Map}
use Rattle.env_script.specs.chan_map.vidi_bits.Findings.{is_nil}
use Rattle.env_script.specs.run_model.Run.{IsStretchRow}
use Rattle.env_script.specs.run_model.Stretches.{IsRunBehind, Turns, and_stretch, offers_behind, rows_of}
use Rattle.env_script.specs.declared.stalls.Stalls.{Stalls}
use Rattle.env_script.specs.Offer.{Offer}
use Rattle.env_script.specs.Offered.{offers_after, offers_on}
use Rattle.vidi_io.specs.Sink.{Frame}
use Rattle.vidi_recorder.specs.declared.cells.Cells.{Cells}
use Rattle.vidi_recorder.specs.declared.error.Outcome.{Outcome}
use Rattle.vidi_recorder.specs.declared.error.Outcome.TheVariants.{Whole, Unstable}
use Rattle.run_stage.specs.declared.ending.Ending.{Ending}
use Rattle.run_stage.specs.declared.ending.Ending.TheVariants as endings
use Rattle.run_stage.specs.Stretching.{all_rows, GoesOn}
use Rattle.vidi_recorder.specs.Course.{Course, AreRunOf, IsTheRunOf, drained_before, gates_behind, sizes_of, turns_within}

-- the books behind a cycle: those of a reset where one comes
abbrev pub IsRestarted : Bool → Ledger → Ledger → Type 0
IsRestarted true old new = IsReset old new
IsRestarted false old new = new ≡ old

-- the bytes of the packet of a reset behind this gap, where one comes; they don't depend on channels
abbrev pub reset_bytes : Bool → ℕ → List ℕ
reset_bytes comes gap = if comes then packet_bytes [] (reset_packet gap) else []

-- the bytes of the rows' packets, and of that of the reset behind them, where the next row is fresh
abbrev pub bytes_so_far : List Channel → List Row → Bool → List ℕ
bytes_so_far channels rows fresh = rows_bytes channels rows ++ reset_bytes fresh (length rows - end_of 0 0 rows)

-- where those packets end: the reset's begins and ends with the next row
abbrev pub end_so_far : List Row → Bool → ℕ
end_so_far rows fresh = if fresh then length rows else end_of 0 0 rows

-- the bytes that drain after all of these rows but the last
abbrev pub drained_but_last : List ℕ → Plan → List Row → ℕ
drained_but_last sizes plan rows = drained_before sizes plan rows (length rows - 1) (fresh_at plan rows (length rows - 1))

-- The books are *Gates*'s after the rows, where the next one is fresh or isn't. The bytes that are out and those that wait are the header and
-- the rows' packets, with that of the reset behind them; out are the header and what drains after the rows. `first` is what the sink told
-- before.
pub record Going (channels : List Channel) (plan : Plan) (first : Option (List ℕ)) (rows : List Row) (fresh : Bool) (room : Ledger)
    (items : List ℕ) (told : Option (List ℕ)) (packets : ℕ) : Type 0 where
  pub stands : StandsAfter (sizes_of channels) plan rows fresh room
  pub waits : length items ≡ room.used
  pub bytes : List ℕ
  pub told_is : told ≡ append_known first bytes
  pub all : bytes ++ items ≡ header_bytes channels ++ bytes_so_far channels rows fresh
  pub out : length bytes ≡ length (header_bytes channels) + drained_before (sizes_of channels) plan rows (length rows) fresh
  pub count : packets ≡ length (trace_of channels rows).packets + (if fresh then 1 else 0)

-- a push failed: a front of those bytes is out, at least what drains after all rows but the last
pub record Cut (channels : List Channel) (plan : Plan) (first : Option (List ℕ)) (rows : List Row) (fresh : Bool) (told : Option (List ℕ))
    : Type 0 where
  pub bytes : List ℕ
  pub lost : List ℕ
  pub told_is : told ≡ append_known first bytes
  pub all : bytes ++ lost ≡ header_bytes channels ++ bytes_so_far channels rows fresh
  pub out : 0 < length rows → length (header_bytes channels) + drained_but_last (sizes_of channels) plan rows ≤ length bytes

-- the memory of a recording has the sizes that its calls ask for
pub record HasSizes (channels : List Channel) (capacity : ℕ) (cells : Cells) : Type 0 where
  pub store : cells.store.capacity ≡ capacity
  pub used : cells.room.used ≤ capacity
  pub out_len : length cells.out.items ≡ capacity
  pub offers_len : length cells.given.offers.contents ≡ length (all_widths channels)

-- Whether the next row is fresh: the first one behind a reset is, and a further one where a reset comes behind the rows since.
pub record IsNextFresh (channels : List Channel) (plan : Plan) (times : List ℕ) (cycles : ℕ) (past : List (List Row)) (here : List Row)
    (fresh : Bool) : Type 0 where
  pub begins : here ≡ [] → fresh ≡ not (is_nil past)
  pub goes_on : 0 < length here → fresh ≡ turns_within channels plan times cycles (all_rows past here)

-- The environment stands for the rows, the recording is as far, and in the next cycle the stage is given what the environment offers now,
-- behind the gates that are up. `begun` is what the sink told behind the header.
pub record IsAsFar (channels : List Channel) (plan : Plan) (begun told : Option (List ℕ)) (stands_for : List Row → Type 0)
    (current : ℕ → Offer) (cells : Cells) (rows : List Row) : Type 0 where
  pub header : (first : Option (List ℕ)) × (begun ≡ append_known first (header_bytes channels))
  pub played : stands_for rows
  pub going : (first : Option (List ℕ)) → begun ≡ append_known first (header_bytes channels)
      → Going channels plan first rows cells.fresh cells.room cells.store.items told cells.packets
  pub ends : cells.end ≡ end_so_far rows cells.fresh
  pub came : cells.resets ≡ restarts rows + (if cells.fresh then 1 else 0)
  pub sizes : HasSizes channels plan.capacity cells
  pub offers : cells.given.offers ≡ offers_on channels current
  pub gates : cells.given.gates ≡ cells.room.gates
  pub below : cells.given.gates < 2 ^ length channels

-- so it is behind these stretches and the rows since, and it is known whether the next row is fresh
pub record StandsAt (channels : List Channel) (plan : Plan) (times : List ℕ) (cycles : ℕ) (begun told : Option (List ℕ))
    (stands_for : List Row → Type 0) (current : ℕ → Offer) (cells : Cells) (past : List (List Row)) (here : List Row) : Type 0 where
  pub far : IsAsFar channels plan begun told stands_for current cells (all_rows past here)
  pub next : IsNextFresh channels plan times cycles past here cells.fresh

-- a push failed behind the last of the rows: the environment stands for them
pub record BreaksAt (channels : List Channel) (plan : Plan) (times : List ℕ) (cycles : ℕ) (begun told : Option (List ℕ))
    (stands_for : List Row → Type 0) (rows : List Row) : Type 0 where
  pub played : stands_for rows
  pub cut : (first : Option (List ℕ)) → begun ≡ append_known first (header_bytes channels)
      → Cut channels plan first rows (turns_within channels plan times cycles rows) told

-- what a row has to be, behind these stretches and the rows since: behind rows behind which a reset comes none follows in the same stretch
abbrev pub rule_within : List Channel → (List Row → ℕ → Offer) → Plan → List ℕ → ℕ → List (List Row) → List Row → Row → Type 0
rule_within channels offer plan times cycles past here row = GoesOn (Turns (turns_within channels plan times cycles)) past here
    → IsStretchRow (not (is_nil past)) channels (offers_behind (offers_after channels offer) past) (gates_behind channels plan past) here row

-- what a recorder is lent: its map, plan of stalls and times, the number of cycles, and the borrows of the rest
pub record Lent : Type 0 where
  pub map : Map
  pub stalls : Stalls
  pub times : List ℕ
  pub cycles : ℕ
  pub env : GName
  pub cells : GName
  pub sink : GName

abbrev pub lent : Map → Stalls → List ℕ → ℕ → GName → GName → GName → Lent
lent map stalls times cycles env cells sink =
    record { map = map; stalls = stalls; times = times; cycles = cycles; env = env; cells = cells; sink = sink }

-- an environment of these channels, and what it becomes, which has the same plan and channels
pub record SameEnv {E P : Type 0} (plan_in : E → P) (channels_in : E → List Channel) (channels : List Channel) (old new : E) : Type 0 where
  pub plan : plan_in new ≡ plan_in old
  pub channels_are : channels_in old ≡ channels
  pub channels_stay : channels_in new ≡ channels_in old

-- a sink, and what it becomes
pub record SameSink {K : Type 0} (faults : K → ℕ) (place : K → Option GName) (has_frame : K → Frame → Type 0) (old new : K) : Type 0 where
  pub later : faults old ≤ faults new
  pub place_is : place new ≡ place old
  pub frame : (f : Frame) → has_frame old f → has_frame new f

-- the rows are a run's, and the shell goes on behind them
pub record Reached (w : Course) (runs : Design → Values → Option Row → Type 0) (rows : List Row) : Type 0 where
  pub past : List (List Row)
  pub here : List Row
  pub rows_are : rows_of past ++ here ≡ rows
  pub run : AreRunOf w (and_stretch past here)
  pub last : IsRunBehind w.design w.bound w.offers (gates_behind w.bound.channels w.plan) past here
  pub at : runs w.design (last.driven.state (length here)) (row_before here (length here))

-- the rows are the run's, and end as is said
abbrev pub RunsTo : Course → List Row → ℕ → Outcome → Type 0
RunsTo w rows packets (Whole n) = IsTheRunOf w rows None × (n ≡ packets)
RunsTo w rows packets (Unstable channel cycle n) = IsTheRunOf w rows (Some channel) × (cycle ≡ length rows) × (n ≡ packets)

-- how a recording ends whose cycles ended so; a recorder is never done before
abbrev pub ended : ℕ → Ending → Outcome
ended packets endings.Whole = Whole packets
ended packets (endings.Done cycles) = Whole packets
ended packets (endings.Unstable channel cycle) = Unstable channel cycle packets
