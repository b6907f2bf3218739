-- Laws of the flat design's names and of how much there is.
use Rattle.std.specs.Prelude.{◌≡◌, List, length}
use Rattle.std.specs.List.{sum_by}
use Rattle.net_design.specs.declared.design.DesignMemory.{DesignMemory}
use Rattle.flat_parts.specs.vlog_elab.Instances.{ModuleInstance}
use Rattle.flat_parts.specs.vlog_elab.Reasons.{word_total}
use Rattle.flat_parts.specs.Seats.{seats_of}
use Rattle.flat_parts.specs.Nets.{flat_nets, flat_memories}
use Rattle.flat_parts.specs.Laws.{PathsDiffer, NamesDiffer}

-- no two nets of the design have the same full name, where no two instances have the same path
abbrev pub NamesDifferByPaths : Type 0
NamesDifferByPaths = PathsDiffer → NamesDiffer

-- as many nets as the instances have
abbrev pub NetsAreCounted : Type 0
NetsAreCounted = (is : List ModuleInstance)
    → length (flat_nets (seats_of is)) ≡ sum_by (λ (i : ModuleInstance). length i.scope.nets) is

-- and as many words
abbrev pub WordsAreCounted : Type 0
WordsAreCounted = (is : List ModuleInstance)
    → sum_by (λ (a : DesignMemory). a.room.length) (flat_memories (seats_of is)) ≡ word_total is
