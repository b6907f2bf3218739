-- The flat design that has the parts of a file's instances settles as the file does.
use Rattle.std.specs.Prelude.{ℕ, ◌<◌, ◌^◌, ◌↔◌, List, [], ◌∷◌, ◌++◌}
use Rattle.std.specs.List.{AllByRecursion}
use Rattle.vlog_tree.specs.Tree.{ModuleOf, FileOf}
use Rattle.vlog_elab.specs.vlog_size.declared.scope.ScopeMemory.{ScopeMemory}
use Rattle.vlog_elab.specs.vlog_size.declared.scope.Scope.{Scope}
use Rattle.vlog_elab.specs.vlog_size.Table.{Named}
use Rattle.net_design.specs.declared.design.Design.{Design}
use Rattle.net_design.specs.Settled as design
use Rattle.vlog_elab.specs.Instances.{instances}
use Rattle.vlog_elab.specs.Reasons.{Clear}
use Rattle.vlog_driver.specs.Names.{Full, State}
use Rattle.vlog_driver.specs.Instances.{IsAt}
use Rattle.vlog_driver.specs.Settled as meaning
use Rattle.flat_parts.specs.Built.{IsBuilt}
use Rattle.flat_parts.specs.Meaning.{values_of, state_of, WordsBelow, AreNarrow}
use Rattle.flat_parts.specs.Laws.{IsTop, InstancesAreAll, PathsDiffer, FirstIsTop, BuiltNumbers, SeatsStand, NetsHaveSeats, HeldAlike}

-- each word fits its memory
abbrev pub FitWords : List (ModuleOf ℕ) → ModuleOf ℕ → (Full → ℕ → ℕ) → Type 0
FitWords modules top words = WordsBelow modules top words (λ a. 2 ^ a.width)

-- where no reason holds, words that fit have at most 128 bits
abbrev pub FitAreNarrow : Type 0
FitAreNarrow = (file : FileOf ℕ) (name : List ℕ) (top : ModuleOf ℕ) → Clear file name → IsTop file name top
    → (words : Full → ℕ → ℕ) → FitWords file.modules top words → AreNarrow file.modules top words

-- a map is settled for the design exactly where it is for the file
abbrev pub SettledAlike : Type 0
SettledAlike = (file : FileOf ℕ) (name : List ℕ) (top : ModuleOf ℕ) (d : Design) → Clear file name → IsTop file name top
    → IsBuilt file.modules top (instances file name) d
    → (s : State) (pins : List ℕ) (v : Full → ℕ) → AreNarrow file.modules top s.words
    → design.IsSettled d (state_of d s) pins (values_of d v s.words) ↔ meaning.IsSettled file.modules top s pins v

-- what the laws of instances and of places make of these
abbrev pub NarrowByLaws : Type 0
NarrowByLaws = InstancesAreAll → FitAreNarrow

abbrev pub SettledByLaws : Type 0
SettledByLaws = InstancesAreAll → PathsDiffer → FirstIsTop → BuiltNumbers → SeatsStand → NetsHaveSeats → HeldAlike → SettledAlike
