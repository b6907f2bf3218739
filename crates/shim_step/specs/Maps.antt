-- Each list of numbers of a design's nets and words is the list of a map from full names to numbers.
use Rattle.std.specs.Prelude.{◌≡◌, ◌≢◌, ℕ, List, [], ◌∷◌, ◌++◌, map, length}
use Rattle.std.specs.List.{AllPairs}
use Rattle.net_design.specs.declared.design.DesignMemory.{DesignMemory}
use Rattle.net_design.specs.declared.design.Design.{Design}
use Rattle.net_design.specs.declared.values.Values.{Values}
use Rattle.net_design.specs.Names.{net_names, list_at, paths}
use Rattle.net_design.specs.Settled.{word_count}
use Rattle.vlog_tree.specs.Tree.{ModuleOf, FileOf}
use Rattle.flat_parts.specs.vlog_elab.Instances.{instances}
use Rattle.flat_parts.specs.vlog_elab.Reasons.{Clear}
use Rattle.flat_parts.specs.vlog_driver.Names.{Full}
use Rattle.flat_parts.specs.Built.{IsBuilt}
use Rattle.flat_parts.specs.Laws.{IsTop}
use Rattle.flat_parts.specs.Meaning.{values_of}

-- the full name of each memory
abbrev pub memory_names : Design → List Full
memory_names d = map (λ (a : DesignMemory). list_at (paths d.instances) a.instance ++ a.name ∷ []) d.memories

-- a map that has these numbers of the design's nets and words
pub record IsListOf (d : Design) (v : Values) : Type 0 where
  pub nets : Full → ℕ
  pub words : Full → ℕ → ℕ
  pub is : values_of d nets words ≡ v

abbrev pub ListsAreMaps : Type 0
ListsAreMaps = (d : Design) (v : Values) → AllPairs (λ (a b : Full). a ≢ b) (net_names d)
    → AllPairs (λ (a b : Full). a ≢ b) (memory_names d)
    → length v.nets ≡ length d.nets → length v.words ≡ word_count d → IsListOf d v

-- no two memories of the flat design have the same full name
abbrev pub MemoriesDiffer : Type 0
MemoriesDiffer = (file : FileOf ℕ) (name : List ℕ) (top : ModuleOf ℕ) (d : Design) → Clear file name → IsTop file name top
    → IsBuilt file.modules top (instances file name) d → AllPairs (λ (a b : Full). a ≢ b) (memory_names d)
