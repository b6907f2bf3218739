-- What kind each net of the flat design is to E8 (this project's profile).
use Rattle.std.specs.Prelude.{ℕ, Bool, true, false, ◌==◌, ◌&&◌, List, map}
use Rattle.std.specs.List.{flat_map, list_any}
use Rattle.std.specs.Str.{bytes_eq}
use Rattle.vlog_tree.specs.Tree.{ModuleOf}
use Rattle.flat_parts.specs.vlog_size.declared.scope.ScopeNet.{ScopeNet}
use Rattle.flat_parts.specs.vlog_size.Table.{Named}
use Rattle.flat_parts.specs.net_drive.declared.findings.NetKind.{NetKind}
use Rattle.flat_parts.specs.net_drive.declared.findings.NetKind.TheVariants.{Pin, Wire, Reg}
use Rattle.flat_parts.specs.vlog_names.Ports.{has_reg}
use Rattle.flat_parts.specs.vlog_driver.Settled.{inputs_of}
use Rattle.flat_parts.specs.Seats.{Seat}

-- whether a module has an input of this name
abbrev pub has_input : ModuleOf ℕ → List ℕ → Bool
has_input m name = list_any (bytes_eq name) (inputs_of m)

-- of a net that the pins drive or don't, and that is a reg or isn't
abbrev pub kind_if : Bool → Bool → NetKind
kind_if true reg = Pin
kind_if false true = Reg
kind_if false false = Wire

-- the pins drive the inputs of the top, which is the instance at seat 0
abbrev pub kind_of : Seat → Named ScopeNet → NetKind
kind_of x n = kind_if ((x.number == 0) && has_input x.instance.tree n.name) (has_reg x.instance.tree n.name)

abbrev pub seat_kinds : Seat → List NetKind
seat_kinds x = map (kind_of x) x.instance.scope.nets

-- of the nets of the flat design, in their order
unfoldable pub flat_kinds : List Seat → List NetKind
flat_kinds xs = flat_map seat_kinds xs
