-- What `run DESIGN MAP SCRIPT` owes: each step of it in its order.
use Rattle.std.specs.Prelude.{ℕ, List, Option, None, Some, length}
use Rattle.vidi_recorder.specs.vidi_io.Shelf.{Files}
use Rattle.bench_run.specs.trace_model.declared.row.Row.{Row}
use Rattle.net_design.specs.declared.design.Design.{Design}
use Rattle.bench_run.specs.chan_map.declared.pins.Map.{Map}
use Rattle.bench_run.specs.env_script.declared.script.Script.{Script}
use Rattle.bench_run.specs.env_script.ScriptOffer.{script_offer}
use Rattle.bench_run.specs.declared.plain.PlainRun.{PlainRun}
use Rattle.bench_run.specs.declared.plain.Spot.{Spot}
use Rattle.bench_run.specs.Plain.{IsPlainRun}
use Rattle.vidi_bench.specs.report_text.Rows.{run_text}
use Rattle.vidi_bench.specs.declared.bench.Bench.{Bench}
use Rattle.vidi_bench.specs.vidi_answer.declared.status.Status.TheVariants.{Done, Unstable}
use Rattle.vidi_bench.specs.Steps.{Ending, IsSaid, Step}
use Rattle.vidi_bench.specs.Benches.{ReadTexts, RefusedTexts, IsBench}
use Rattle.run_commands.specs.Said.{cycles_line, unstable_line}

-- ---- the run: its rows, and `cycles N` or where it is unstable

abbrev pub IsEnded : Map → List Row → Option Spot → Ending
IsEnded map rows None = IsSaid Done (run_text rows map.channels (cycles_line (length rows)))
IsEnded map rows (Some spot) =
    IsSaid (Unstable spot.channel spot.cycle) (run_text rows map.channels (unstable_line map.channels spot.channel spot.cycle))

abbrev pub IsPlayed : Design → Map → Script → Ending
IsPlayed d map script status said =
    (run : PlainRun) × IsPlainRun d map (script_offer script) script.resets script.cycles run × IsEnded map run.rows run.unstable status said

-- ---- the steps

-- three texts
abbrev pub RunTexts : List ℕ → List ℕ → List ℕ → Ending
RunTexts design map script = Step (RefusedTexts design map script) (IsBench design map script)
    (λ (b : Bench). IsPlayed b.device.design b.device.map b.script)

abbrev pub Runs : List ℕ → List ℕ → List ℕ → Option Files → (List ℕ → Type 0) → Ending
Runs design map script files ReadFailed = ReadTexts design map script files ReadFailed RunTexts
