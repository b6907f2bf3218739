-- What a module declares a name as (IEEE 1364-2005, 4.2.2 and 12.3.3).
use Rattle.std.specs.Prelude.{ℕ, Bool, true, false, List, Option, None, Some}
use Rattle.vlog_tree.specs.Tree.{PortHeadOf, ModuleOf}
use Rattle.vlog_tree.specs.declared.module.Direction.{Direction}
use Rattle.vlog_tree.specs.declared.module.Direction.TheVariants.{Input, Output}
use Rattle.vlog_tree.specs.declared.module.NetKind.{NetKind}
use Rattle.vlog_tree.specs.declared.module.NetKind.TheVariants.{Wire, Reg}
use Rattle.vlog_size.specs.Table.{value_of}
use Rattle.vlog_names.specs.declared.declaration.Declaration.{Declaration}
use Rattle.vlog_names.specs.declared.declaration.Declaration.TheVariants as d
use Rattle.vlog_names.specs.Entries.{declared}

abbrev pub is_input_port : Direction → Bool
is_input_port (Input wire) = true
is_input_port (Output kind) = false

-- a port without a direction has that of the port before
abbrev pub input_after : Bool → Option (PortHeadOf ℕ) → Bool
input_after before None = before
input_after before (Some h) = is_input_port h.direction

abbrev pub is_output_port : Direction → Bool
is_output_port (Input wire) = false
is_output_port (Output kind) = true

abbrev pub is_reg_word : Option NetKind → Bool
is_reg_word None = false
is_reg_word (Some Wire) = false
is_reg_word (Some Reg) = true

-- `output reg`
abbrev pub is_reg_port : Direction → Bool
is_reg_port (Input wire) = false
is_reg_port (Output kind) = is_reg_word kind

abbrev pub is_output : Option Declaration → Bool
is_output (Some (d.Port direction shape)) = is_output_port direction
is_output _ = false

-- a reg, also an `output reg`
abbrev pub is_reg : Option Declaration → Bool
is_reg (Some (d.Reg shape)) = true
is_reg (Some (d.Port direction shape)) = is_reg_port direction
is_reg _ = false

-- whether a module has an output of this name
abbrev pub has_output : ModuleOf ℕ → List ℕ → Bool
has_output m name = is_output (value_of (declared m) name)

-- whether a module has a reg of this name
abbrev pub has_reg : ModuleOf ℕ → List ℕ → Bool
has_reg m name = is_reg (value_of (declared m) name)
