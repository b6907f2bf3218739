-- What a recording into a file leaves, by its outcome, and what is said of it.
use Rattle.std.specs.Prelude.{◌≡◌, ℕ, Bool, List, Option, None, Some, length}
use Rattle.vidi_recorder.specs.vidi_io.Shelf.{Files}
use Rattle.vidi_recorder.specs.vidi_io.Writing.{IsKept}
use Rattle.bench_run.specs.trace_model.declared.channel.Channel.{Channel}
use Rattle.bench_run.specs.trace_model.declared.row.Row.{Row}
use Rattle.bench_run.specs.trace_model.Recording.{trace_of}
use Rattle.vidi_recorder.specs.declared.error.Outcome.{Outcome}
use Rattle.vidi_recorder.specs.declared.error.Outcome.TheVariants as outcomes
use Rattle.vidi_recorder.specs.declared.error.RecordError.{RecordError}
use Rattle.vidi_recorder.specs.declared.error.RecordError.TheVariants as errors
use Rattle.vidi_recorder.specs.Course.{Course}
use Rattle.vidi_bench.specs.vidi_answer.declared.status.Status.TheVariants.{Done, Unstable}
use Rattle.run_commands.specs.Records.{IsCutShort, Leaves}
use Rattle.run_commands.specs.Said.{recorded_line, unstable_line}
use Rattle.vidi_bench.specs.Steps.{Ending, IsSaid}

abbrev pub FileEnds : Course → Option Files → List ℕ → (Bool → Type 0) → Option Files → Outcome → Type 0
FileEnds w files trace Started left (outcomes.Whole packets) = (rows : List Row) × Leaves w files trace Started left rows None
    × (packets ≡ length (trace_of w.bound.channels rows).packets)
FileEnds w files trace Started left (outcomes.Unstable channel cycle packets) = (rows : List Row)
    × Leaves w files trace Started left rows (Some channel) × (cycle ≡ length rows)

abbrev pub FileFails : Course → Option Files → List ℕ → (Bool → Type 0) → Option Files → RecordError → Type 0
FileFails w files trace Started left errors.WriteFault = IsCutShort w files trace Started left
FileFails w files trace Started left errors.Memory = IsKept files Started left

-- what is said of an outcome, after so many cycles where it is whole
abbrev pub IsOutcome : List Channel → ℕ → Outcome → Ending
IsOutcome channels cycles (outcomes.Whole packets) = IsSaid Done (recorded_line cycles packets)
IsOutcome channels cycles (outcomes.Unstable channel cycle packets) = IsSaid (Unstable channel cycle) (unstable_line channels channel cycle)
