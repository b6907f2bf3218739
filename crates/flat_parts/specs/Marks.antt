-- Which nets of the flat design are regs, in the order of the nets.
use Rattle.std.specs.Prelude.{Bool, List, map}
use Rattle.std.specs.List.{flat_map}
use Rattle.vlog_elab.specs.vlog_size.declared.scope.ScopeNet.{ScopeNet}
use Rattle.vlog_elab.specs.vlog_size.Table.{Named}
use Rattle.vlog_elab.specs.Instances.{ModuleInstance}
use Rattle.vlog_elab.specs.vlog_names.Ports.{has_reg}
use Rattle.flat_parts.specs.Seats.{Seat}

-- for each net of an instance whether it is a reg
abbrev pub instance_marks : ModuleInstance → List Bool
instance_marks i = map (λ (n : Named ScopeNet). has_reg i.tree n.name) i.scope.nets

abbrev pub seat_marks : Seat → List Bool
seat_marks x = instance_marks x.instance

-- for each net of the design
unfoldable pub reg_marks : List Seat → List Bool
reg_marks xs = flat_map seat_marks xs
