-- What the trace of a recording holds, what is salvaged of it, when its run is the one that `run` prints, what holds of every run and every
-- replay, and what is read of a wrapped design.
use Rattle.std.specs.Prelude.{◌≡◌, ℕ, ◌<◌, ◌≤◌, Bool, true, false, List, ◌++◌, Option, Some, All, length, slice_get}
use Rattle.std.specs.FinMap.{get}
use Rattle.vidi_commands.specs.vidi_bits.Number.{has}
use Rattle.vidi_commands.specs.vidi_io.Shelf.{Files, HasStarted, holding}
use Rattle.vlog_tree.specs.Tree.{FileOf}
use Rattle.vlog_tree.specs.Lines.{bare}
use Rattle.vidi_commands.specs.trace_model.declared.channel.Channel.{Channel}
use Rattle.vidi_commands.specs.trace_model.declared.channel.Dir.{Dir}
use Rattle.vidi_commands.specs.trace_model.declared.channel.Dir.TheVariants.{Inward, Outward}
use Rattle.vidi_commands.specs.trace_model.declared.packet.Packet.{Packet}
use Rattle.vidi_commands.specs.trace_model.declared.row.Row.{Row}
use Rattle.vidi_commands.specs.trace_model.declared.trace.Trace.{Trace}
use Rattle.vidi_commands.specs.trace_model.Epoch.{epoch, resets}
use Rattle.vidi_commands.specs.trace_model.Recording.{trace_of}
use Rattle.vidi_commands.specs.trace_code.Encoding.{HasEncoding, encode, header_bytes}
use Rattle.vidi_commands.specs.trace_code.Salvage.{front, LieWhole}
use Rattle.vidi_commands.specs.trace_compare.declared.report.Finding.{Finding}
use Rattle.vidi_commands.specs.trace_compare.declared.report.What.{What}
use Rattle.vidi_commands.specs.trace_compare.declared.report.What.TheVariants.{Differs, ExtraStart, ExtraEnd, EarlyStart, EarlyEnd, ExtraReset}
use Rattle.vidi_commands.specs.trace_compare.Findings.{findings}
use Rattle.vidi_commands.specs.run_model.Laws.{AreInOrder, ContentsStay}
use Rattle.vidi_commands.specs.run_model.Stretches.{and_stretch}
use Rattle.vidi_commands.specs.replay_run.declared.outcome.ReplayOutcome.{ReplayOutcome}
use Rattle.vidi_commands.specs.replay_run.declared.outcome.ReplayOutcome.TheVariants.{Ended, Short, Unstable}
use Rattle.vidi_commands.specs.replay_run.Replaying.{held_behind, waits_behind, ArePrefixes, GoesInNoCircle}
use Rattle.vidi_commands.specs.chan_map.declared.pins.Map.{Map}
use Rattle.vidi_commands.specs.shim_trees.Wrapped.{wrapped}
use Rattle.vidi_commands.specs.trace_model.declared.packet.TheConstants.{MOST_CYCLES}
use Rattle.vidi_commands.specs.env_script.ScriptOffer.{script_offer}
use Rattle.vidi_commands.specs.env_script.declared.stalls.Stalls.{Stalls}
use Rattle.vidi_commands.specs.room_ledger.Gates.{used_at}
use Rattle.vidi_commands.specs.room_ledger.Laws.{EverythingDrains}
use Rattle.vidi_commands.specs.bench_run.declared.plain.PlainRun.{PlainRun}
use Rattle.vidi_commands.specs.bench_run.Plain.{spot_behind, IsPlainRun}
use Rattle.vidi_commands.specs.vidi_recorder.Course.{plan_of, sizes_of, IsRunOf, IsTheRunOf}
use Rattle.vidi_commands.specs.vidi_recorder.Laws.{IsKept}
use Rattle.vidi_commands.specs.vidi_recorder.ScriptLaws.{DrainsAll}
use Rattle.vidi_commands.specs.vidi_bench.declared.bench.Bench.{Bench}
use Rattle.vidi_commands.specs.vidi_bench.declared.device.Device.{Device}
use Rattle.vidi_commands.specs.vidi_bench.Benches.{IsBench}
use Rattle.vidi_commands.specs.vidi_bench.Design.{Spells}
use Rattle.vidi_commands.specs.vidi_bench.vidi_answer.declared.status.Status.{Status}
use Rattle.vidi_commands.specs.vidi_bench.vidi_answer.declared.status.Status.TheVariants.{Done}
use Rattle.vidi_commands.specs.vidi_bench.Steps.{IsSaid}
use Rattle.vidi_commands.specs.run_commands.Records.{course_of, IsPlanned}
use Rattle.vidi_commands.specs.replay_command.Replays.{IsReplayable, IsTheReplay}
use Rattle.vidi_commands.specs.wrap_command.Shims.{file_text}
use Rattle.vidi_commands.specs.Said.{salvaged_line}
use Rattle.vidi_commands.specs.trace_commands.Traces.{trace_limit, Saves}
use Rattle.vidi_commands.specs.wrap_command.Wraps.{IsWrappable}

-- Whatever the accepted design, script and store stalls, the trace of the run holds each channel's started and completed transactions,
-- with contents, once and in order, and has an encoding.
abbrev pub RecordedRunIsKept : Type 0
RecordedRunIsKept = (design map script stalls : List ℕ) (files : Option Files) (b : Bench) (plan : Stalls)
    → IsPlanned design map script stalls files b plan → (rows : List Row) (stop : Option ℕ) → IsTheRunOf (course_of b plan) rows stop
    → IsKept b.device.map.channels rows

-- that trace isn't too long to be read again
abbrev pub RecordedTraceIsShort : Type 0
RecordedTraceIsShort = (design map script stalls : List ℕ) (files : Option Files) (b : Bench) (plan : Stalls)
    → IsPlanned design map script stalls files b plan → (rows : List Row) (stop : Option ℕ) → IsTheRunOf (course_of b plan) rows stop
    → length (encode (trace_of b.device.map.channels rows)) ≤ trace_limit

-- `replay` accepts that trace where the files of the design and the map are those that were recorded
abbrev pub RecordedTraceIsReplayable : Type 0
RecordedTraceIsReplayable = (design map script stalls : List ℕ) (files : Files) (b : Bench) (plan : Stalls)
    → IsPlanned design map script stalls (Some files) b plan → (rows : List Row) (stop : Option ℕ) → IsTheRunOf (course_of b plan) rows stop
    → (trace : List ℕ) (now : Files) → get now design ≡ get files design → get now map ≡ get files map
    → get now trace ≡ Some (encode (trace_of b.device.map.channels rows))
    → IsReplayable design map trace (Some now) b.device (trace_of b.device.map.channels rows)

-- the bytes are a front of the trace's encoding, with the whole header
abbrev pub IsBrokenOff : Trace → List ℕ → Type 0
IsBrokenOff t bytes = (length (header_bytes t.channels) ≤ length bytes) × ((lost : List ℕ) × (bytes ++ lost ≡ encode t))

-- `salvage` says how many packets of t lie whole in the bytes, and leaves the encoding of t with these alone in OUT
pub record KeepsWhole (t : Trace) (bytes out : List ℕ) (files : Files) (status : Status) (text : List ℕ) (left : Option Files) : Type 0 where
  pub count : ℕ
  pub whole : LieWhole t (length bytes) count
  pub said : IsSaid Done (salvaged_line count) status text
  pub encoding : HasEncoding (front count t)
  pub leaves : left ≡ holding (Some files) out (encode (front count t))

-- of what is left of a recording that broke off, `salvage` keeps exactly the packets of the run that lie whole in it
abbrev pub BrokenRecordingIsSalvaged : Type 0
BrokenRecordingIsSalvaged = (design map script stalls : List ℕ) (files : Option Files) (b : Bench) (plan : Stalls)
    → IsPlanned design map script stalls files b plan → (rows : List Row) (stop : Option ℕ) → IsTheRunOf (course_of b plan) rows stop
    → (bytes : List ℕ) → IsBrokenOff (trace_of b.device.map.channels rows) bytes
    → (trace out : List ℕ) (now : Files) → get now trace ≡ Some bytes
    → (starts after : ℕ) (status : Status) (text : List ℕ) (left : Option Files)
    → Saves trace out (Some now) (λ _. ⊥) (HasStarted starts after) status text left
    → KeepsWhole (trace_of b.device.map.channels rows) bytes out now status text left

-- `replay` accepts what `salvage` leaves of it, the encoding of its first packets, where the files of the design and the map are those
-- that were recorded
abbrev pub SalvagedTraceIsReplayable : Type 0
SalvagedTraceIsReplayable = (design map script stalls : List ℕ) (files : Files) (b : Bench) (plan : Stalls)
    → IsPlanned design map script stalls (Some files) b plan → (rows : List Row) (stop : Option ℕ) → IsTheRunOf (course_of b plan) rows stop
    → (count : ℕ) (trace : List ℕ) (now : Files) → get now design ≡ get files design → get now map ≡ get files map
    → get now trace ≡ Some (encode (front count (trace_of b.device.map.channels rows)))
    → IsReplayable design map trace (Some now) b.device (front count (trace_of b.device.map.channels rows))

-- where everything drains after each row, the rows that are recorded are those of `run`
abbrev pub DrainedRecordingIsTheRun : Type 0
DrainedRecordingIsTheRun = (design map script stalls : List ℕ) (files : Option Files) (b : Bench) (plan : Stalls)
    → IsPlanned design map script stalls files b plan
    → (rows : List Row) (stop : Option ℕ) → IsTheRunOf (course_of b plan) rows stop
    → EverythingDrains (sizes_of b.device.map.channels) (plan_of plan b.script.resets) rows
    → IsPlainRun b.device.design b.device.map (script_offer b.script) b.script.resets b.script.cycles
    (record { rows = rows; unstable = spot_behind rows stop })

-- so it does where each line of the plan lets out all that the store can hold
abbrev pub WidePlanDrains : Type 0
WidePlanDrains = (design map script stalls : List ℕ) (files : Option Files) (b : Bench) (plan : Stalls)
    → IsPlanned design map script stalls files b plan → DrainsAll plan
    → (rows : List Row) → EverythingDrains (sizes_of b.device.map.channels) (plan_of plan b.script.resets) rows

-- a gate is down in row t only where bytes wait
abbrev pub RecordingHidesNoGate : Type 0
RecordingHidesNoGate = (design map script stalls : List ℕ) (files : Option Files) (b : Bench) (plan : Stalls)
    → IsPlanned design map script stalls files b plan → (rows : List Row) → IsRunOf (course_of b plan) rows
    → (t c : ℕ) (row : Row) → slice_get rows t ≡ Some row → c < length b.device.map.channels → has row.gates c ≡ false
    → 0 < used_at (sizes_of b.device.map.channels) (plan_of plan b.script.resets) rows t row.fresh

-- in each stretch of the run that `run` prints, from one reset to the next, each transaction's content in the row of its completion is that
-- of its start
abbrev pub PrintedRunKeepsContents : Type 0
PrintedRunKeepsContents = (design map script : List ℕ) (b : Bench) → IsBench design map script b → (run : PlainRun)
    → (is : IsPlainRun b.device.design b.device.map (script_offer b.script) b.script.resets b.script.cycles run)
    → All (ContentsStay b.device.map.channels) (and_stretch is.past is.here)

-- where the replay is short, the lists name exactly what it holds back of the last row's epoch and of the reset behind it, with what that
-- awaits, and what it waits for
abbrev pub AreNamed : List Channel → List Packet → List (List Row) → List Row → ReplayOutcome → Type 0
AreNamed channels packets past here (Ended cycles) = Unit {0}
AreNamed channels packets past here (Short helds events) =
    (helds ≡ held_behind channels packets past here) × (events ≡ waits_behind channels packets past here)
AreNamed channels packets past here (Unstable channel cycle) = Unit {0}

-- *Order in the output*: events are paired by epoch, channel, kind and index. In each epoch each input start and output completion is a
-- recorded one, and the completions before it cover its recorded clock. There are at most the recorded resets. The contents of each inward
-- channel are a prefix of those recorded, over all epochs.
pub record IsInOrderOf (channels : List Channel) (packets out : List Packet) : Type 0 where
  pub few : resets out ≤ resets packets
  pub order : (e : ℕ) → AreInOrder channels (epoch e packets) (epoch e out)
  pub contents : ArePrefixes channels packets out

-- a finding on a channel of this direction says of an event that the replayers control, or of a reset, that it is another one, or too much,
-- or too early
abbrev pub breaks_order : Dir → What → Bool
breaks_order Inward Differs = true
breaks_order Inward ExtraStart = true
breaks_order Inward EarlyStart = true
breaks_order Outward ExtraEnd = true
breaks_order Outward EarlyEnd = true
breaks_order dir ExtraReset = true
breaks_order dir what = false

abbrev pub KeepsOrder : List Channel → Finding → Type 0
KeepsOrder channels finding =
    (x : Channel) → slice_get channels finding.channel ≡ Some x → breaks_order x.dir finding.what ≡ false

-- Rows of a replay of these packets, in stretches from one reset to the next. Their trace is in the recorded order. So no finding against the
-- recorded packets breaks it. Contents stay until they are taken. What is held back and awaited is named exactly, and is in no circle. The
-- trace has an encoding.
pub record IsFaithful (channels : List Channel) (packets : List Packet) (rows : List Row) (past : List (List Row)) (here : List Row)
    (outcome : ReplayOutcome) : Type 0 where
  pub order : IsInOrderOf channels packets (trace_of channels rows).packets
  pub unbroken : All (KeepsOrder channels) (findings (record { channels = channels; packets = packets }) (trace_of channels rows))
  pub contents : All (ContentsStay channels) (and_stretch past here)
  pub named : AreNamed channels packets past here outcome
  pub free : GoesInNoCircle channels packets past here outcome
  pub encoded : HasEncoding (trace_of channels rows)

-- whatever the accepted design, and whatever the trace of its channels, recorded or not
abbrev pub ReplayIsFaithful : Type 0
ReplayIsFaithful = (design map trace : List ℕ) (files : Option Files) (v : Device) (t : Trace)
    → IsReplayable design map trace files v t → (n : ℕ) → n ≤ MOST_CYCLES → (rows : List Row) (outcome : ReplayOutcome)
    → (is : IsTheReplay v t n rows outcome) → IsFaithful v.map.channels t.packets rows is.past is.here outcome

-- what is read of the text that `wrap` writes, as `check` reads a design, is the wrapped tree; lines don't count
abbrev pub WrappedIsReadBack : Type 0
WrappedIsReadBack = (design map : List ℕ) (files : Option Files) (f : FileOf ℕ) (m : Map) → IsWrappable design map files f m
    → (g : FileOf ℕ) → Spells (file_text (wrapped f m)) g → bare g ≡ bare (wrapped f m)
