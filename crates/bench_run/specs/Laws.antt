-- What follows for plain runs.
use Rattle.std.specs.Prelude.{◌≡◌, ℕ, All, List}
use Rattle.env_script.specs.trace_model.declared.row.Row.{Row}
use Rattle.net_design.specs.declared.design.Design.{Design}
use Rattle.run_stage.specs.chan_map.declared.pins.Map.{Map}
use Rattle.run_laws.specs.StretchLaws.{OneOfRows}
use Rattle.run_stage.specs.run_model.Laws.{ContentsStay, IsReady}
use Rattle.run_stage.specs.run_model.Stretches.{and_stretch}
use Rattle.env_script.specs.Offer.{Offer}
use Rattle.env_script.specs.Offered.{AreLasting}
use Rattle.bench_run.specs.declared.plain.PlainRun.{PlainRun}
use Rattle.bench_run.specs.Plain.{AreRunAllUp, IsPlainRun}

-- a design with a map, in an environment with resets at these times, has exactly one run of n cycles, as an answer
abbrev pub OneAnswerOf : Design → Map → (List Row → ℕ → Offer) → List ℕ → ℕ → Type 0
OneAnswerOf d m offer resets n = ∥ ((run : PlainRun) × IsPlainRun d m offer resets n run) ∥₁
    × ((a b : PlainRun) → IsPlainRun d m offer resets n a → IsPlainRun d m offer resets n b → a ≡ b)

-- with all gates up there is exactly one list of each length with *IsRun*, in exactly one way stretch by stretch, and exactly one run of n
-- cycles
abbrev pub OnePlainRun : Type 0
OnePlainRun = (d : Design) (m : Map) (offer : List Row → ℕ → Offer) (resets : List ℕ) → IsReady d m → AreLasting m.channels offer
    → (n : ℕ) → OneOfRows (AreRunAllUp d m offer resets) n × OneAnswerOf d m offer resets n

-- in each stretch of it each transaction's content in the row of its completion is that of its start
abbrev pub PlainRunKeepsContents : Type 0
PlainRunKeepsContents = (d : Design) (m : Map) (offer : List Row → ℕ → Offer) (resets : List ℕ) → AreLasting m.channels offer
    → (n : ℕ) (run : PlainRun) (is : IsPlainRun d m offer resets n run) → All (ContentsStay m.channels) (and_stretch is.past is.here)
