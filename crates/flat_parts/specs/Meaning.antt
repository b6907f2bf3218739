-- The flat design means what the file means: a map from full names to numbers is settled for the file exactly where its list is for
-- the design, and so for the next state and the initial one.
use Rattle.std.specs.Prelude.{◌≡◌, ℕ, ◌<◌, ◌^◌, ◌↔◌, List, [], ◌∷◌, ◌++◌, map}
use Rattle.std.specs.List.{flat_map, AllByRecursion}
use Rattle.vlog_tree.specs.Tree.{ModuleOf}
use Rattle.vlog_elab.specs.vlog_size.declared.scope.ScopeMemory.{ScopeMemory}
use Rattle.vlog_elab.specs.vlog_size.declared.scope.Scope.{Scope}
use Rattle.vlog_elab.specs.vlog_size.Table.{Named}
use Rattle.net_design.specs.declared.design.DesignMemory.{DesignMemory}
use Rattle.net_design.specs.declared.design.Design.{Design}
use Rattle.net_design.specs.declared.values.Values.{Values}
use Rattle.net_design.specs.Names.{list_at, paths, net_names}
use Rattle.net_design.specs.Settled as design
use Rattle.vlog_driver.specs.Names.{Full, State, words_from}
use Rattle.vlog_driver.specs.Instances.{IsAt}
use Rattle.vlog_driver.specs.Settled as file
use Rattle.vlog_driver.specs.Next.{IsNext, IsInitial}

-- the words of a memory of the design
abbrev pub memory_words : Design → (Full → ℕ → ℕ) → DesignMemory → List ℕ
memory_words d words a = words_from (words (list_at (paths d.instances) a.instance ++ a.name ∷ [])) 0 a.room.length

-- the list of a map: the numbers of the design's nets and words by their full names
abbrev pub values_of : Design → (Full → ℕ) → (Full → ℕ → ℕ) → Values
values_of d nets words = record { nets = map nets (net_names d); words = flat_map (memory_words d words) d.memories }

abbrev pub state_of : Design → State → Values
state_of d s = values_of d s.nets s.words

-- the words of all memories are below a bound that each memory has
abbrev pub WordsBelow : List (ModuleOf ℕ) → ModuleOf ℕ → (Full → ℕ → ℕ) → (ScopeMemory → ℕ) → Type 0
WordsBelow modules top words bound = (path : Full) (m : ModuleOf ℕ) (c : Scope) → IsAt modules top path m c
    → AllByRecursion (λ (a : Named ScopeMemory). (k : ℕ) → k < a.value.length → words (path ++ a.name ∷ []) k < bound a.value) c.memories

-- no word of a memory has more than 128 bits, which is the most that a memory's words can have
abbrev pub AreNarrow : List (ModuleOf ℕ) → ModuleOf ℕ → (Full → ℕ → ℕ) → Type 0
AreNarrow modules top words = WordsBelow modules top words (λ a. 2 ^ 128)

pub record Means (modules : List (ModuleOf ℕ)) (top : ModuleOf ℕ) (d : Design) : Type 0 where
  pub settled : (s : State) (pins : List ℕ) (v : Full → ℕ) → AreNarrow modules top s.words
      → design.IsSettled d (state_of d s) pins (values_of d v s.words) ↔ file.IsSettled modules top s pins v
  pub next : (s after : State) (v : Full → ℕ)
      → (design.next d (values_of d v s.words) (state_of d s) ≡ state_of d after) ↔ IsNext modules top s v after
  pub initial : (s : State) → (design.initial d ≡ state_of d s) ↔ IsInitial modules top s
