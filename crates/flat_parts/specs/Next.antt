-- The next and the initial state of a flat design that has the parts of a file's instances are those of the file.
use Rattle.std.specs.Prelude.{◌≡◌, ℕ, ◌↔◌, List}
use Rattle.vlog_tree.specs.Tree.{ModuleOf, FileOf}
use Rattle.net_design.specs.declared.design.Design.{Design}
use Rattle.net_design.specs.Settled as design
use Rattle.vlog_elab.specs.Instances.{instances}
use Rattle.vlog_elab.specs.Reasons.{Clear}
use Rattle.vlog_driver.specs.Names.{Full, State}
use Rattle.vlog_driver.specs.Next.{IsNext, IsInitial}
use Rattle.flat_parts.specs.Built.{IsBuilt}
use Rattle.flat_parts.specs.Meaning.{values_of, state_of}
use Rattle.flat_parts.specs.Laws.{IsTop}

-- the next state, where v is the map settled for s
abbrev pub NextAlike : Type 0
NextAlike = (file : FileOf ℕ) (name : List ℕ) (top : ModuleOf ℕ) (d : Design) → Clear file name → IsTop file name top
    → IsBuilt file.modules top (instances file name) d → (s after : State) (v : Full → ℕ)
    → (design.next d (values_of d v s.words) (state_of d s) ≡ state_of d after) ↔ IsNext file.modules top s v after

-- the initial state
abbrev pub InitialStateAlike : Type 0
InitialStateAlike = (file : FileOf ℕ) (name : List ℕ) (top : ModuleOf ℕ) (d : Design) → Clear file name → IsTop file name top
    → IsBuilt file.modules top (instances file name) d → (s : State)
    → (design.initial d ≡ state_of d s) ↔ IsInitial file.modules top s
