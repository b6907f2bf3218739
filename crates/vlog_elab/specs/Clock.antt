-- The ports to which clocks may be joined: the input ports of the top that are one bit wide (IEEE 1364-2005, 12.3; this project's
-- profile).
use Rattle.std.specs.Prelude.{ℕ, nat_eq, Bool, false, ◌&&◌, List, [], ◌∷◌, ◌++◌, Option, None, Some}
use Rattle.vlog_hierarchy.specs.vidi_bits.Findings.{told_if}
use Rattle.vlog_tree.specs.Tree.{PortOf}
use Rattle.vlog_hierarchy.specs.vlog_size.declared.scope.ScopeNet.{ScopeNet}
use Rattle.vlog_hierarchy.specs.vlog_size.Table.{Named, value_of}
use Rattle.vlog_names.specs.Ports.{input_after}
use Rattle.vlog_elab.specs.Instances.{ModuleInstance}

abbrev pub is_one_bit : Option ScopeNet → Bool
is_one_bit None = false
is_one_bit (Some n) = nat_eq n.width 1

-- the input ports of one bit among these, in text order
abbrev pub one_bit_inputs : List (Named ScopeNet) → Bool → List (PortOf ℕ) → List (List ℕ)
one_bit_inputs nets before [] = []
one_bit_inputs nets before (p ∷ ps) =
    told_if (input_after before p.head && is_one_bit (value_of nets p.id.name)) p.id.name
    ++ one_bit_inputs nets (input_after before p.head) ps

-- those of the top, which is the first instance
abbrev pub clock_inputs : List ModuleInstance → List (List ℕ)
clock_inputs [] = []
clock_inputs (i ∷ is) = one_bit_inputs i.scope.nets false i.tree.ports
