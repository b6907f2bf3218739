-- The commands on designs: no failed write among their answers, and the same where no read failed.
use Rattle.std.proofs.Common.{◌≡◌, ℕ, Bool, List, Option, None, Some, Ok, inl, inr, length}
use Rattle.bench_run.specs.trace_model.declared.channel.Channel.{Channel}
use Rattle.bench_run.specs.trace_model.declared.row.Row.{Row}
use Rattle.bench_run.specs.trace_model.Recording.{trace_of}
use Rattle.net_design.specs.declared.design.Design.{Design}
use Rattle.vidi_bench.specs.vlog_design.Design.{file_counts}
use Rattle.bench_run.specs.chan_map.declared.pins.Map.{Map}
use Rattle.bench_run.specs.env_script.declared.script.Script.{Script}
use Rattle.bench_run.specs.env_script.declared.stalls.Stalls.{Stalls}
use Rattle.bench_run.specs.env_script.Reasons.{read_lines}
use Rattle.bench_run.specs.env_script.Stalls.{ReadsStalls}
use Rattle.bench_run.specs.declared.plain.Spot.{Spot}
use Rattle.vidi_recorder.specs.vidi_io.Shelf.{Files}
use Rattle.vidi_bench.specs.report_text.declared.reason.Word.TheVariants as words
use Rattle.vidi_bench.specs.report_text.declared.reason.Reason.TheVariants.{StallLine, TooSmall}
use Rattle.vidi_bench.specs.report_text.Rows.{run_text}
use Rattle.vidi_bench.specs.declared.bench.Bench.{Bench}
use Rattle.vidi_bench.specs.vidi_answer.declared.status.Status.{Status}
use Rattle.vidi_bench.specs.vidi_answer.declared.status.Status.TheVariants.{Done, WriteFault, Unstable}
use Rattle.vidi_bench.specs.Benches.{RefusedTexts, IsBench}
use Rattle.vidi_bench.specs.Design.{text_limit, Building}
use Rattle.vidi_bench.specs.Reading.{Reading}
use Rattle.vidi_bench.specs.Steps.{IsSaid}
use Rattle.vidi_bench.proofs.Chain.{Implies}
use Rattle.vidi_bench.proofs.Quiet.{Mute, mute-step, mute-reading, mute-refusal, mute-said, done-goes, quiet-reading}
use Rattle.vidi_bench.proofs.QuietTexts.{mute-spelling, mute-building, mute-refused_texts, mute-texts, quiet-texts}
use Rattle.run_commands.specs.Checks.{Checked, Checks}
use Rattle.run_commands.specs.Records.{least_for, IsNoPlan, IsShort, RefusedPlan, RefusedPlanned, RefusedRoom, IsRecorded, Records}
use Rattle.run_commands.specs.Runs.{IsEnded, IsPlayed, RunTexts, Runs}
use Rattle.run_commands.specs.Said.{check_text, cycles_line, recorded_line, unstable_line}

unstable-goes : (c t : ℕ) → Unstable c t ≡ WriteFault → ⊥
unstable-goes c t e = cc

-- ---- `check`
pub mute-checks : (design top : List ℕ) (files : Option Files) (F : List ℕ → Type 0) → Mute (Checks design top files F)
mute-checks design top files F = mute-reading text_limit words.Design design files F (Checked top) (λ text.
    mute-spelling text (λ f. Building top f (λ _. IsSaid Done (check_text f (file_counts f top))))
    (λ f. mute-building top f (λ _. IsSaid Done (check_text f (file_counts f top)))
    (λ d. mute-said Done (check_text f (file_counts f top)) done-goes)))

-- ---- `run`
mute-ended : (m : Map) (rows : List Row) (spot : Option Spot) → Mute (IsEnded m rows spot)
mute-ended m rows None = mute-said Done (run_text rows m.channels (cycles_line (length rows))) done-goes
mute-ended m rows (Some s) = mute-said (Unstable s.channel s.cycle)
    (run_text rows m.channels (unstable_line m.channels s.channel s.cycle)) (unstable-goes s.channel s.cycle)

mute-played : (d : Design) (m : Map) (s : Script) → Mute (IsPlayed d m s)
mute-played d m s x (run, is, ended) = mute-ended m run.rows run.unstable x ended

pub mute-runs : (design m script : List ℕ) (files : Option Files) (F : List ℕ → Type 0) → Mute (Runs design m script files F)
mute-runs design m script files F = mute-texts design m script files F RunTexts (λ d n s.
    mute-step (RefusedTexts d n s) (IsBench d n s) (λ (b : Bench). IsPlayed b.device.design b.device.map b.script) (mute-refused_texts d n s)
    (λ b. mute-played b.device.design b.device.map b.script))

-- ---- `record`
mute-no_plan : (bytes : List ℕ) → Mute (IsNoPlan bytes)
mute-no_plan bytes x (line, is, said) = mute-refusal words.Stalls (StallLine line) x said

mute-short : (need : ℕ) (plan : Stalls) → Mute (IsShort need plan)
mute-short need plan x (small, said) = mute-refusal words.Stalls (TooSmall need plan.capacity) x said

pub mute-room : (stalls : List ℕ) (need : ℕ) → Mute (RefusedRoom stalls need)
mute-room stalls need = mute-step (IsNoPlan stalls) (λ (plan : Stalls). ReadsStalls (read_lines stalls) (Ok plan)) (IsShort need)
    (mute-no_plan stalls) (mute-short need)

mute-plan : (stalls : List ℕ) (b : Bench) → Mute (RefusedPlan stalls b)
mute-plan stalls b = mute-room stalls (least_for b.device.map.channels b.script)

pub mute-planned : (design m script stalls : List ℕ) → Mute (RefusedPlanned design m script stalls)
mute-planned design m script stalls = mute-step (RefusedTexts design m script) (IsBench design m script) (RefusedPlan stalls)
    (mute-refused_texts design m script) (mute-plan stalls)

pub mute-recorded : (channels : List Channel) (rows : List Row) (stop : Option ℕ) → Mute (IsRecorded channels rows stop)
mute-recorded channels rows None = mute-said Done (recorded_line (length rows) (length (trace_of channels rows).packets)) done-goes
mute-recorded channels rows (Some c) =
    mute-said (Unstable c (length rows)) (unstable_line channels c (length rows)) (unstable-goes c (length rows))

pub mute-records : (design m script stalls trace : List ℕ) (files : Option Files) (F : List ℕ → Type 0) (P : Bool → Type 0) (x : List ℕ)
    (left : Option Files) → Records design m script stalls trace files F P WriteFault x left → ⊥
mute-records design m script stalls trace files F P x left (inl (u, same)) = mute-texts design m script files F
    (λ d n s. Reading text_limit words.Stalls stalls files F (RefusedPlanned d n s))
    (λ d n s. mute-reading text_limit words.Stalls stalls files F (RefusedPlanned d n s) (mute-planned d n s)) x u
mute-records design m script stalls trace files F P x left (inr (b, plan, planned, (rows, stop, leaves, recorded))) =
    mute-recorded b.device.map.channels rows stop x recorded

-- ---- where no read failed
pub quiet-checks : (design top : List ℕ) (files : Option Files) (F : List ℕ → Type 0) → ((name : List ℕ) → ¬ F name)
    → Implies (Checks design top files F) (Checks design top files (λ _. ⊥))
quiet-checks design top files F quiet =
    quiet-reading text_limit words.Design design files F (Checked top) (Checked top) (quiet design) (λ text a x rest. rest)

pub quiet-runs : (design m script : List ℕ) (files : Option Files) (F : List ℕ → Type 0) → ((name : List ℕ) → ¬ F name)
    → Implies (Runs design m script files F) (Runs design m script files (λ _. ⊥))
quiet-runs design m script files F quiet = quiet-texts design m script files F RunTexts RunTexts quiet (λ d n s a x rest. rest)

pub quiet-records : (design m script stalls trace : List ℕ) (files : Option Files) (F : List ℕ → Type 0) (P : Bool → Type 0) (a : Status)
    (x : List ℕ) (left : Option Files) → ((name : List ℕ) → ¬ F name) → Records design m script stalls trace files F P a x left
    → Records design m script stalls trace files (λ _. ⊥) P a x left
quiet-records design m script stalls trace files F P a x left quiet (inl (unrecorded, same)) =
    inl (
      quiet-texts design m script files F (λ d n s. Reading text_limit words.Stalls stalls files F (RefusedPlanned d n s))
          (λ d n s. Reading text_limit words.Stalls stalls files (λ _. ⊥) (RefusedPlanned d n s)) quiet
          (λ d n s. quiet-reading text_limit words.Stalls stalls files F (RefusedPlanned d n s) (RefusedPlanned d n s) (quiet stalls)
          (λ text b y rest. rest)) a x unrecorded,
      same,
    )
quiet-records design m script stalls trace files F P a x left quiet (inr recorded) = inr recorded
