-- What `check DESIGN TOP` owes.
use Rattle.std.specs.Prelude.{ℕ, List, Option}
use Rattle.vidi_recorder.specs.vidi_io.Shelf.{Files}
use Rattle.vidi_bench.specs.vlog_design.Design.{file_counts}
use Rattle.vidi_bench.specs.report_text.declared.reason.Word.TheVariants as words
use Rattle.vidi_bench.specs.vidi_answer.declared.status.Status.TheVariants.{Done}
use Rattle.vidi_bench.specs.Design.{text_limit, Building, Spelling}
use Rattle.vidi_bench.specs.Reading.{Reading}
use Rattle.run_commands.specs.Said.{check_text}
use Rattle.vidi_bench.specs.Steps.{Ending, IsSaid}

-- one text
abbrev pub Checked : List ℕ → List ℕ → Ending
Checked top text = Spelling text (λ f. Building top f (λ _. IsSaid Done (check_text f (file_counts f top))))

abbrev pub Checks : List ℕ → List ℕ → Option Files → (List ℕ → Type 0) → Ending
Checks design top files ReadFailed = Reading text_limit words.Design design files ReadFailed (Checked top)
