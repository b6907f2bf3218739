-- What the names of a module instance are in its code: nets by their places in the scope's list, and the words of all its memories
-- in one list, those of the first memory first.
use Rattle.std.specs.Prelude.{◌≡◌, ℕ, zero, suc, ◌+◌, ◌<◌, ◌^◌, List, [], ◌∷◌, Option, None, Some}
use Rattle.vlog_size.specs.declared.scope.Param.{Param}
use Rattle.vlog_size.specs.declared.scope.ScopeNet.{ScopeNet}
use Rattle.vlog_size.specs.declared.scope.ScopeMemory.{ScopeMemory}
use Rattle.vlog_size.specs.declared.scope.Scope.{Scope}
use Rattle.vlog_size.specs.Table.{Named, value_of, place_of}
use Rattle.vlog_size.specs.Names.{Readable, readable_of, checked}
use Rattle.vlog_size.specs.Size.{or_zero}
use Rattle.net_design.specs.Sized.{IsCountable}
use Rattle.vlog_block.specs.declared.source.Source.{Source}
use Rattle.vlog_block.specs.declared.source.Source.TheVariants.{Constant, Net, Memory, Nothing}

-- what an expression in this scope may read, with its names checked
abbrev pub names_of : Scope → Readable
names_of s = checked (readable_of s)

-- the words of the first k memories
abbrev pub words_before : List (Named ScopeMemory) → ℕ → ℕ
words_before [] k = 0
words_before (m ∷ ms) zero = 0
words_before (m ∷ ms) (suc k) = m.value.length + words_before ms k

-- the net at place k
abbrev pub net_source : ℕ → ScopeNet → Source
net_source k n = Net (record { net = k; low = 0; width = n.width })

-- the memory at place k
abbrev pub memory_source : List (Named ScopeMemory) → ℕ → ScopeMemory → Source
memory_source memories k m = Memory (record { first = words_before memories k; length = m.length }) m.width

-- what a name has, with its place, where it has something; else the other
abbrev pub or_source : {V : Type 0} → (ℕ → V → Source) → Option ℕ → Option V → Source → Source
or_source f k (Some x) other = f (or_zero k) x
or_source f k None other = other

-- a parameter's constant, else the other
abbrev pub or_constant : Option Param → Source → Source
or_constant (Some p) other = Constant p.value
or_constant None other = other

-- a memory
abbrev pub memory_named : List (Named ScopeMemory) → List ℕ → Source
memory_named memories name = or_source (memory_source memories) (place_of memories name) (value_of memories name) Nothing

-- a net, else a memory
abbrev pub place_named : List (Named ScopeNet) → List (Named ScopeMemory) → List ℕ → Source
place_named nets memories name = or_source net_source (place_of nets name) (value_of nets name) (memory_named memories name)

-- a parameter, else a net, else a memory
abbrev pub source_of : Readable → List ℕ → Source
source_of r name = or_constant (value_of r.params name) (place_named r.nets r.memories name)

-- a place that 64 bits can count
abbrev pub IsSource : Source → Type 0
IsSource (Net span) = (span.net < 2 ^ 64) × (span.low ≡ 0)
IsSource (Memory room n) = IsCountable (2 ^ 64) room 0
IsSource _ = Unit {0}
