-- The runs and the replay of accepted files exist, and are one.
use Rattle.std.specs.Prelude.{◌≡◌, ℕ, List, Option}
use Rattle.vidi_commands.specs.vidi_io.Shelf.{Files}
use Rattle.vidi_commands.specs.trace_model.declared.row.Row.{Row}
use Rattle.vidi_commands.specs.trace_model.declared.trace.Trace.{Trace}
use Rattle.vidi_commands.specs.run_model.Laws.{OneOfLength, OneThatEnds}
use Rattle.vidi_commands.specs.run_model.Stretches.{rows_of}
use Rattle.vidi_commands.specs.replay_run.declared.outcome.ReplayOutcome.{ReplayOutcome}
use Rattle.vidi_commands.specs.env_script.ScriptOffer.{script_offer}
use Rattle.vidi_commands.specs.env_script.declared.stalls.Stalls.{Stalls}
use Rattle.vidi_commands.specs.bench_run.Laws.{OneAnswerOf}
use Rattle.vidi_commands.specs.bench_run.Plain.{AreRunAllUp}
use Rattle.vidi_commands.specs.vidi_recorder.Course.{IsRunOf, IsTheRunOf}
use Rattle.vidi_commands.specs.vidi_bench.declared.bench.Bench.{Bench}
use Rattle.vidi_commands.specs.vidi_bench.declared.device.Device.{Device}
use Rattle.vidi_commands.specs.vidi_bench.Benches.{IsBench}
use Rattle.vidi_commands.specs.run_commands.Records.{course_of, IsPlanned}
use Rattle.vidi_commands.specs.replay_command.Replays.{IsReplayable, IsTheReplay}

-- for each n exactly one list of n rows is a run that `record` may play, and exactly one list is *the run*, which ends in one way
abbrev pub OneRecording : Type 0
OneRecording = (design map script stalls : List ℕ) (files : Option Files) (b : Bench) (plan : Stalls)
    → IsPlanned design map script stalls files b plan
    → ((n : ℕ) → OneOfLength (IsRunOf (course_of b plan)) n) × OneThatEnds (IsTheRunOf (course_of b plan))

-- the rows are those of a run that `run` may play, with the script's resets
abbrev pub IsPlayable : Bench → List Row → Type 0
IsPlayable b rows = (stretches : List (List Row))
    × AreRunAllUp b.device.design b.device.map (script_offer b.script) b.script.resets stretches × (rows_of stretches ≡ rows)

-- the same of `run`
abbrev pub OnePrintedRun : Type 0
OnePrintedRun = (design map script : List ℕ) (b : Bench) → IsBench design map script b
    → ((n : ℕ) → OneOfLength (IsPlayable b) n)
    × OneAnswerOf b.device.design b.device.map (script_offer b.script) b.script.resets b.script.cycles

-- exactly one list is *the replay* of at most n cycles, which ends in one way
abbrev pub OneReplayOfFiles : Type 0
OneReplayOfFiles = (design map trace : List ℕ) (files : Option Files) (v : Device) (t : Trace) → IsReplayable design map trace files v t
    → (n : ℕ) → ∥ ((rows : List Row) × (outcome : ReplayOutcome) × IsTheReplay v t n rows outcome) ∥₁
    × ((a b : List Row) (i j : ReplayOutcome) → IsTheReplay v t n a i → IsTheReplay v t n b j → (a ≡ b) × (i ≡ j))
