-- What the code answers, beside the parts of the flat design.
use Rattle.std.specs.Prelude.{◌≡◌, ℕ, ◌<◌, ◌≤◌, List, map, length, slice_get, Some, Option, None}
use Rattle.flat_parts.specs.vlog_size.declared.scope.ScopeMemory.{ScopeMemory}
use Rattle.flat_parts.specs.vlog_size.Table.{Named}
use Rattle.vlog_tree.specs.Tree.{PortHeadOf}
use Rattle.vlog_tree.specs.declared.module.Direction as head
use Rattle.vlog_tree.specs.declared.module.Direction.TheVariants as heads
use Rattle.net_design.specs.declared.design.Instance.{Instance}
use Rattle.net_design.specs.declared.design.DesignMemory.{DesignMemory}
use Rattle.net_design.specs.declared.design.Direction.{Direction}
use Rattle.net_design.specs.declared.design.Direction.TheVariants.{Input, Output}
use Rattle.net_design.specs.Names.{paths}
use Rattle.flat_parts.specs.vlog_elab.Instances.{ModuleInstance}

-- ---- instances

abbrev pub paths_of : List ModuleInstance → List (List (List ℕ))
paths_of is = map (λ (i : ModuleInstance). i.path) is

-- instances of the design that are these of the file: as many, with the same paths, and each behind its parent
pub record AreInstances (d : List Instance) (is : List ModuleInstance) : Type 0 where
  pub count : length d ≡ length is
  pub same : paths d ≡ paths_of is
  pub parents : (i : ℕ) (x : Instance) → slice_get d i ≡ Some x → 1 ≤ i → x.parent < i

-- ---- memories

-- a memory, whose first word this is
abbrev pub memory_of : ℕ → ℕ → Named ScopeMemory → DesignMemory
memory_of number word m =
    record { instance = number; name = m.name; width = m.value.width; room = record { first = word; length = m.value.length } }

-- ---- ports

abbrev pub seen : head.Direction → Direction
seen (heads.Input wire) = Input
seen (heads.Output kind) = Output

-- a port without a head is as the port before
abbrev pub direction_after : Direction → Option (PortHeadOf ℕ) → Direction
direction_after before None = before
direction_after before (Some h) = seen h.direction
