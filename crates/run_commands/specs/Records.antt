-- What `record DESIGN MAP SCRIPT STALLS TRACE` owes: each step of it in its order, and what is left in TRACE.
use Rattle.std.specs.Prelude.{◌≡◌, ℕ, ◌<◌, ◌≤◌, ◌⊎◌, Bool, false, not, List, [], Option, None, Some, Ok, Err, length}
use Rattle.vidi_recorder.specs.vidi_io.vidi_bits.Findings.{is_nil}
use Rattle.vidi_recorder.specs.vidi_io.Shelf.{Files, holding}
use Rattle.vidi_recorder.specs.vidi_io.Writing.{IsKept}
use Rattle.bench_run.specs.trace_model.declared.channel.Channel.{Channel}
use Rattle.bench_run.specs.trace_model.declared.row.Row.{Row}
use Rattle.bench_run.specs.trace_model.Recording.{trace_of}
use Rattle.vidi_recorder.specs.trace_code.Encoding.{encode}
use Rattle.vidi_recorder.specs.room_ledger.Ledger.{Ledger, empty}
use Rattle.vidi_recorder.specs.room_ledger.Reservation.{least}
use Rattle.bench_run.specs.env_script.declared.error.StallError.TheVariants as errors
use Rattle.bench_run.specs.env_script.declared.script.Script.{Script}
use Rattle.bench_run.specs.env_script.declared.stalls.Stalls.{Stalls}
use Rattle.bench_run.specs.env_script.Reasons.{read_lines}
use Rattle.bench_run.specs.env_script.Stalls.{ReadsStalls}
use Rattle.bench_run.specs.env_script.ScriptOffer.{script_offer}
use Rattle.vidi_recorder.specs.Course.{Course, course, sizes_of, IsRunOf, IsTheRunOf}
use Rattle.vidi_recorder.specs.Recording.{IsFrontOfTheRun}
use Rattle.vidi_bench.specs.report_text.declared.reason.Word.TheVariants as words
use Rattle.vidi_bench.specs.report_text.declared.reason.Reason.TheVariants.{StallLine, TooSmall}
use Rattle.vidi_bench.specs.declared.bench.Bench.{Bench}
use Rattle.vidi_bench.specs.vidi_answer.declared.status.Status.{Status}
use Rattle.vidi_bench.specs.vidi_answer.declared.status.Status.TheVariants.{Done, Unstable}
use Rattle.vidi_bench.specs.Steps.{Ending, IsSaid, IsRefusal, Step}
use Rattle.vidi_bench.specs.Reading.{IsRead, Reading}
use Rattle.vidi_bench.specs.Design.{text_limit}
use Rattle.vidi_bench.specs.Benches.{ReadTexts, RefusedTexts, IsBench}
use Rattle.run_commands.specs.Said.{recorded_line, unstable_line}

-- ---- what ends the command before anything is recorded

-- P1
abbrev pub IsNoPlan : List ℕ → Ending
IsNoPlan bytes status said =
    (line : ℕ) × ReadsStalls (read_lines bytes) (Err (errors.Line line)) × IsRefusal words.Stalls (StallLine line) status said

-- the bytes that a store for a script on these channels has at least: what all channels need together, and with resets the room of a permit
abbrev pub least_for : List Channel → Script → ℕ
least_for channels script = least (sizes_of channels) (not (is_nil script.resets))

-- the store holds fewer than are needed
abbrev pub IsShort : ℕ → Stalls → Ending
IsShort need plan status said = (plan.capacity < need) × IsRefusal words.Stalls (TooSmall need plan.capacity) status said

abbrev pub IsTooSmall : List Channel → Script → Stalls → Ending
IsTooSmall channels script = IsShort (least_for channels script)

-- a plan of stalls, and a store of its capacity where so many bytes are needed
abbrev pub RefusedRoom : List ℕ → ℕ → Ending
RefusedRoom stalls need = Step (IsNoPlan stalls) (λ plan. ReadsStalls (read_lines stalls) (Ok plan)) (IsShort need)

-- for these channels and this script
abbrev pub RefusedStore : List ℕ → List Channel → Script → Ending
RefusedStore stalls channels script = RefusedRoom stalls (least_for channels script)

abbrev pub RefusedPlan : List ℕ → Bench → Ending
RefusedPlan stalls b = RefusedStore stalls b.device.map.channels b.script

-- four texts
abbrev pub RefusedPlanned : List ℕ → List ℕ → List ℕ → List ℕ → Ending
RefusedPlanned design map script stalls = Step (RefusedTexts design map script) (IsBench design map script) (RefusedPlan stalls)

-- four files, in the order of the words
abbrev pub IsUnrecorded : List ℕ → List ℕ → List ℕ → List ℕ → Option Files → (List ℕ → Type 0) → Ending
IsUnrecorded design map script stalls files ReadFailed = ReadTexts design map script files ReadFailed
    (λ d m s. Reading text_limit words.Stalls stalls files ReadFailed (RefusedPlanned d m s))

-- ---- what is recorded

-- a new store of the plan's capacity, for these channels and this script
abbrev pub IsNewRoom : List Channel → Script → Stalls → Ledger → Type 0
IsNewRoom channels script plan room = room ≡ empty (sizes_of channels) (not (is_nil script.resets)) plan.capacity

-- the four files are read and accepted: they say this design with its map, this script and this plan
pub record IsPlanned (design map script stalls : List ℕ) (files : Option Files) (b : Bench) (plan : Stalls) : Type 0 where
  pub design_text : List ℕ
  pub map_text : List ℕ
  pub script_text : List ℕ
  pub stalls_text : List ℕ
  pub design_read : IsRead text_limit design files design_text
  pub map_read : IsRead text_limit map files map_text
  pub script_read : IsRead text_limit script files script_text
  pub stalls_read : IsRead text_limit stalls files stalls_text
  pub bench : IsBench design_text map_text script_text b
  pub planned : ReadsStalls (read_lines stalls_text) (Ok plan)
  pub holds : least_for b.device.map.channels b.script ≤ plan.capacity

-- of that design and map, with what the script offers, its resets and the gates of the plan, for the script's cycles
abbrev pub course_of : Bench → Stalls → Course
course_of b plan = course b.device.design b.device.map (script_offer b.script) plan b.script.resets b.script.cycles

-- the run has all its cycles, or ends before the row of this cycle, which is unstable on this channel
abbrev pub IsRecorded : List Channel → List Row → Option ℕ → Ending
IsRecorded channels rows None = IsSaid Done (recorded_line (length rows) (length (trace_of channels rows).packets))
IsRecorded channels rows (Some channel) = IsSaid (Unstable channel (length rows)) (unstable_line channels channel (length rows))

-- exactly one start succeeded; of files that aren't told, one or none
abbrev pub IsStarted : Option Files → (Bool → Type 0) → Type 0
IsStarted files Started = (once : Bool) × Started once × (once ≡ false → files ≡ None)

-- the rows are the run; TRACE was started once, and is the encoding of their trace
abbrev pub Leaves : Course → Option Files → List ℕ → (Bool → Type 0) → Option Files → List Row → Option ℕ → Type 0
Leaves w files trace Started left rows stop = IsTheRunOf w rows stop
    × (left ≡ holding files trace (encode (trace_of w.bound.channels rows))) × IsStarted files Started

abbrev pub RecordsRun : Course → List ℕ → Option Files → (Bool → Type 0) → Status → List ℕ → Option Files → Type 0
RecordsRun w trace files Started status text left = (rows : List Row) × (stop : Option ℕ) × Leaves w files trace Started left rows stop
    × IsRecorded w.bound.channels rows stop status text

abbrev pub Records : List ℕ → List ℕ → List ℕ → List ℕ → List ℕ → Option Files → (List ℕ → Type 0) → (Bool → Type 0) → Status → List ℕ
    → Option Files → Type 0
Records design map script stalls trace files ReadFailed Started status text left =
    (IsUnrecorded design map script stalls files ReadFailed status text × IsKept files Started left)
    ⊎ ((b : Bench) × (plan : Stalls) × IsPlanned design map script stalls files b plan
    × RecordsRun (course_of b plan) trace files Started status text left)

-- ---- a write of TRACE failed

-- TRACE is as at entry, as no start succeeded. Or it holds a front of the encoding of the run's trace, for which it was started exactly
-- once, or is empty, as a start failed; the run is there, and these rows are its first.
abbrev pub IsCutShort : Course → Option Files → List ℕ → (Bool → Type 0) → Option Files → Type 0
IsCutShort w files trace Started left = (Started false × (left ≡ files))
    ⊎ ((once : Bool) × Started once × (rows : List Row) × (bytes : List ℕ) × IsRunOf w rows × IsFrontOfTheRun w rows bytes
    × (left ≡ holding files trace bytes) × (once ≡ false → bytes ≡ []))

abbrev pub StopsRecording : List ℕ → List ℕ → List ℕ → List ℕ → List ℕ → Option Files → (Bool → Type 0) → Option Files → Type 0
StopsRecording design map script stalls trace files Started left = (b : Bench) × (plan : Stalls)
    × IsPlanned design map script stalls files b plan × IsCutShort (course_of b plan) files trace Started left
