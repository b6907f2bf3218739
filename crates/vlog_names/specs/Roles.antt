-- What a declared name may be used for (IEEE 1364-2005, 4.2 and 6; this project's profile). Of a name that isn't declared
-- E4 speaks, and nothing is found here.
use Rattle.std.specs.Prelude.{Bool, true, false, not, [], Option, None, Some}
use Rattle.vlog_tree.specs.declared.module.Direction.{Direction}
use Rattle.vlog_tree.specs.declared.module.Direction.TheVariants.{Input, Output}
use Rattle.vlog_tree.specs.declared.stmt.AssignOp.{AssignOp}
use Rattle.vlog_tree.specs.declared.stmt.AssignOp.TheVariants.{Blocking, Nonblocking}
use Rattle.vlog_names.specs.declared.declaration.Declaration.{Declaration}
use Rattle.vlog_names.specs.declared.declaration.Declaration.TheVariants as d
use Rattle.vlog_names.specs.Ports.{is_reg_word, is_reg_port}

-- an output that isn't `output reg`
abbrev pub is_wire_port : Direction → Bool
is_wire_port (Input wire) = false
is_wire_port (Output kind) = not (is_reg_word kind)

-- a wire or a wire output, which `assign` and a child's output may drive
abbrev pub is_wire : Option Declaration → Bool
is_wire None = true
is_wire (Some (d.Wire shape)) = true
is_wire (Some (d.Port direction shape)) = is_wire_port direction
is_wire (Some other) = false

-- a reg, or in a clocked block a memory, which an always block may write
abbrev pub is_stored : Bool → Option Declaration → Bool
is_stored clocked None = true
is_stored clocked (Some (d.Reg shape)) = true
is_stored clocked (Some (d.Memory shape)) = clocked
is_stored clocked (Some (d.Port direction shape)) = is_reg_port direction
is_stored clocked (Some other) = false

-- a net or a memory, which no constant expression reads
abbrev pub is_place : Option Declaration → Bool
is_place (Some (d.Wire shape)) = true
is_place (Some (d.Reg shape)) = true
is_place (Some (d.Memory shape)) = true
is_place (Some (d.Port direction shape)) = true
is_place other = false

abbrev pub is_memory : Option Declaration → Bool
is_memory (Some (d.Memory shape)) = true
is_memory other = false

-- a port that may have an initialiser
abbrev pub is_output_reg : Option Declaration → Bool
is_output_reg None = true
is_output_reg (Some (d.Port direction shape)) = is_reg_port direction
is_output_reg (Some other) = false

-- `=` in a clocked block, or `<=` in `always @*`
abbrev pub is_wrong_sign : Bool → AssignOp → Bool
is_wrong_sign clocked Blocking = clocked
is_wrong_sign clocked Nonblocking = not clocked
