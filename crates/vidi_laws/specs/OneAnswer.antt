-- Of what a shelf tells, words earn one answer.
use Rattle.std.specs.Prelude.{◌≡◌, ℕ, ◌⊎◌, List, Option, Some}
use Rattle.vidi_commands.specs.vidi_io.Shelf.{Files, HasStarted}
use Rattle.vidi_commands.specs.report_text.declared.reason.Word.TheVariants as words
use Rattle.vidi_commands.specs.report_text.declared.reason.Reason.TheVariants.{Loop}
use Rattle.vidi_commands.specs.vidi_bench.vidi_answer.declared.status.Status.{Status}
use Rattle.vidi_commands.specs.vidi_bench.vidi_answer.declared.status.Status.TheVariants.{Refused, Memory}
use Rattle.vidi_commands.specs.Answer.{Earns}

-- the design is refused for a loop of its drivers (E10), of which any may be named
abbrev pub NamesLoop : Status → Type 0
NamesLoop (Refused words.Design (Loop lines)) = Unit {0}
NamesLoop status = ⊥

-- Of what a shelf tells, with no failed read, two answers that are earned are one, and leave the same, unless memory was wanting or both
-- name a loop, whatever their counts of starts were.
abbrev pub OneAnswer : Type 0
OneAnswer = (words : List (List ℕ)) → (files : Files) (before now first last : ℕ) (a b : Status) (x y : List ℕ) (left right : Option Files)
    → Earns words (Some files) (λ _. ⊥) (HasStarted before now) a x left
    → Earns words (Some files) (λ _. ⊥) (HasStarted first last) b y right
    → (a ≡ Memory) ⊎ (b ≡ Memory) ⊎ (((NamesLoop a × NamesLoop b) ⊎ ((a ≡ b) × (x ≡ y))) × (left ≡ right))
