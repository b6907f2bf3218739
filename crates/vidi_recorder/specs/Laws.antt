-- What a recording holds of a run, and what gates do to it.
use Rattle.std.specs.Prelude.{◌≡◌, ℕ, ◌<◌, ◌≤◌, ◌++◌, not, false, List, Option, Some, length, slice_get, take, count_by}
use Rattle.vidi_io.specs.vidi_bits.Number.{has}
use Rattle.trace_code.specs.trace_model.declared.channel.Channel.{Channel}
use Rattle.trace_code.specs.trace_model.declared.event.Kind.TheVariants.{End}
use Rattle.trace_code.specs.trace_model.declared.packet.TheConstants.{GAP_LIMIT}
use Rattle.trace_code.specs.trace_model.declared.row.Row.{Row}
use Rattle.trace_code.specs.trace_model.Channel.{IsTable}
use Rattle.trace_code.specs.trace_model.Epoch.{stretch}
use Rattle.trace_code.specs.trace_model.Packet.{count}
use Rattle.trace_code.specs.trace_model.Recording.{recorded, trace_of, transactions}
use Rattle.trace_code.specs.trace_model.Row.{completes}
use Rattle.trace_code.specs.Encoding.{HasEncoding}
use Rattle.net_design.specs.declared.design.Design.{Design}
use Rattle.env_script.specs.chan_map.declared.pins.Map.{Map}
use Rattle.env_script.specs.run_model.Laws.{ContentsStay, IsReady, OneOfLength, OneThatEnds}
use Rattle.env_script.specs.run_model.Run.{AllUp}
use Rattle.env_script.specs.run_model.Stretches.{AreTheRun, rows_of}
use Rattle.env_script.specs.chan_map.vidi_bits.Findings.{is_nil}
use Rattle.env_script.specs.Resets.{is_due_behind}
use Rattle.room_ledger.specs.Gates.{used_at}
use Rattle.room_ledger.specs.Laws.{EverythingDrains}
use Rattle.room_ledger.specs.Reservation.{least}
use Rattle.env_script.specs.declared.stalls.Stalls.{Stalls}
use Rattle.env_script.specs.Offer.{Offer}
use Rattle.env_script.specs.Offered.{AreLasting}
use Rattle.vidi_recorder.specs.Course.{Course, course, sizes_of, IsRunOf, IsTheRunOf}

-- a design with a map, in an environment, under a plan and with resets at these times, has exactly one run of each length, and exactly one run
-- of so many cycles
abbrev pub OneRecordedRun : Type 0
OneRecordedRun = (d : Design) (m : Map) (offer : List Row → ℕ → Offer) (stalls : Stalls) (times : List ℕ) (cycles : ℕ) → IsReady d m
    → AreLasting m.channels offer → ((n : ℕ) → OneOfLength (IsRunOf (course d m offer stalls times cycles)) n)
    × OneThatEnds (IsTheRunOf (course d m offer stalls times cycles))

-- The starts of the trace's packets are, channel by channel, the transactions of the rows with their contents, once and in order; the ends are
-- the completions. Since the last reset each completion has the content of its start, at each place; what was in flight before it has a
-- start alone. And the trace has an encoding.
pub record IsKept (channels : List Channel) (rows : List Row) : Type 0 where
  pub starts : (c : ℕ) → recorded channels (trace_of channels rows).packets c ≡ transactions channels rows c
  pub ends : (c : ℕ) → count End c (trace_of channels rows).packets ≡ count_by (λ (row : Row). completes row c) rows
  pub contents : (k : ℕ) → k ≤ length rows → ContentsStay channels (stretch (take k rows))
  pub encoded : HasEncoding (trace_of channels rows)

abbrev pub TheRunIsKept : Type 0
TheRunIsKept = (d : Design) (m : Map) (offer : List Row → ℕ → Offer) (stalls : Stalls) (times : List ℕ) (cycles : ℕ) (rows : List Row)
    (stop : Option ℕ) → IsTable m.channels → AreLasting m.channels offer → cycles < GAP_LIMIT
    → IsTheRunOf (course d m offer stalls times cycles) rows stop → IsKept m.channels rows

-- a gate is down in row t only where bytes wait
abbrev pub NoHiddenGate : Type 0
NoHiddenGate = (w : Course) (rows : List Row) (t c : ℕ) (row : Row)
    → least (sizes_of w.bound.channels) w.plan.resets ≤ w.plan.capacity → IsRunOf w rows → slice_get rows t ≡ Some row
    → c < length w.bound.channels → has row.gates c ≡ false → 0 < used_at (sizes_of w.bound.channels) w.plan rows t row.fresh

-- the run without a store, with resets as soon as their times have come: the rows are those of its stretches
pub record IsThePlainRunOf (w : Course) (rows : List Row) (stop : Option ℕ) : Type 0 where
  pub past : List (List Row)
  pub here : List Row
  pub rows_are : rows_of past ++ here ≡ rows
  pub run : AreTheRun w.design w.bound w.offers (λ before. AllUp w.bound.channels) (is_due_behind w.times) w.cycles past here stop

-- where everything drains in each cycle, the run is that one; a plan has resets exactly where there are times of them
abbrev pub DrainedRunIsPlain : Type 0
DrainedRunIsPlain = (w : Course) (rows : List Row) (stop : Option ℕ) → w.plan.resets ≡ not (is_nil w.times)
    → least (sizes_of w.bound.channels) w.plan.resets ≤ w.plan.capacity → EverythingDrains (sizes_of w.bound.channels) w.plan rows
    → IsTheRunOf w rows stop → IsThePlainRunOf w rows stop
