-- What the names of a module are declared as (IEEE 1364-2005, 12.1 and 4.11; this project's profile), in text order:
-- parameters, ports, nets, memories, instances and local parameters share one name space.
use Rattle.std.specs.Prelude.{ℕ, false, List, [], ◌∷◌, ◌++◌, map, Option, None, Some, option_map}
use Rattle.std.specs.List.{flat_map}
use Rattle.vlog_tree.specs.declared.module.Direction.TheVariants as direction
use Rattle.vlog_tree.specs.Tree.{IdentOf, RangeOf, ParameterOf, PortHeadOf, PortOf, NamedValueOf, Reg1Of, RegTailOf, InitTail}
use Rattle.vlog_tree.specs.Tree.{MemoryTail, ItemOf, WiresItem, DrivenWiresItem, RegsItem, LocalparamsItem, AssignItem, AlwaysItem}
use Rattle.vlog_tree.specs.Tree.{InstanceItem, ModuleOf, FileOf}
use Rattle.vlog_size.specs.Table.{Named, value_of}
use Rattle.vlog_size.specs.Kinds.{Class, IsParameter, IsScalar, IsVector, IsScalarMemory, IsVectorMemory, IsInstance}
use Rattle.vlog_names.specs.declared.declaration.Shape.{Shape}
use Rattle.vlog_names.specs.declared.declaration.Shape.TheVariants.{Scalar, Vector}
use Rattle.vlog_names.specs.declared.declaration.Declaration.{Declaration}
use Rattle.vlog_names.specs.declared.declaration.Declaration.TheVariants as d

-- the names of a module, and what each is declared as
abbrev pub Names : Type 0
Names = List (Named Declaration)

abbrev pub entry : {V : Type 0} → List ℕ → V → Named V
entry name v = record { name = name; value = v }

-- a net or a word with a range is a vector
abbrev pub shape_of : Option (RangeOf ℕ) → Shape
shape_of None = Scalar
shape_of (Some r) = Vector

abbrev pub parameter_entry : ParameterOf ℕ → Named Declaration
parameter_entry p = entry p.id.name d.Parameter

-- a port without a head is as the port before
abbrev pub port_as : Declaration → Option (PortHeadOf ℕ) → Declaration
port_as before None = before
port_as before (Some h) = d.Port h.direction (shape_of h.range)

-- the grammar lets no first port be without a head
abbrev pub no_port : Declaration
no_port = d.Port (direction.Input false) Scalar

abbrev pub port_entries : Declaration → List (PortOf ℕ) → Names
port_entries before [] = []
port_entries before (p ∷ ps) = entry p.id.name (port_as before p.head) ∷ port_entries (port_as before p.head) ps

abbrev pub ident_entry : Declaration → IdentOf ℕ → Named Declaration
ident_entry what id = entry id.name what

abbrev pub value_entry : Declaration → NamedValueOf ℕ → Named Declaration
value_entry what w = entry w.id.name what

-- a `reg` with a range of words is a memory
abbrev pub reg_as : Shape → Option (RegTailOf ℕ) → Declaration
reg_as shape None = d.Reg shape
reg_as shape (Some (InitTail e)) = d.Reg shape
reg_as shape (Some (MemoryTail r)) = d.Memory shape

abbrev pub reg_entry : Shape → Reg1Of ℕ → Named Declaration
reg_entry shape r = entry r.id.name (reg_as shape r.tail)

-- what one item declares
abbrev pub item_entries : ItemOf ℕ → Names
item_entries (WiresItem range ids) = map (ident_entry (d.Wire (shape_of range))) ids
item_entries (DrivenWiresItem range wires) = map (value_entry (d.Wire (shape_of range))) wires
item_entries (RegsItem range regs) = map (reg_entry (shape_of range)) regs
item_entries (LocalparamsItem range params) = map (value_entry d.Localparam) params
item_entries (AssignItem assigns) = []
item_entries (AlwaysItem a) = []
item_entries (InstanceItem i) = entry i.id.name d.Instance ∷ []

-- what the header of a module declares
abbrev pub header_entries : ModuleOf ℕ → Names
header_entries m = map parameter_entry m.parameters ++ port_entries no_port m.ports

-- what a module declares
unfoldable pub declared : ModuleOf ℕ → Names
declared m = header_entries m ++ flat_map item_entries m.items

-- the modules of a file, by name, with what each declares
abbrev pub module_entry : ModuleOf ℕ → Named Names
module_entry m = entry m.name (declared m)

unfoldable pub modules_of : FileOf ℕ → List (Named Names)
modules_of file = map module_entry file.modules

-- the class that decides which brackets may stand behind a name
abbrev pub shape_class : Class → Class → Shape → Class
shape_class a b Scalar = a
shape_class a b Vector = b

abbrev pub class_of : Declaration → Class
class_of d.Parameter = IsParameter
class_of d.Localparam = IsParameter
class_of (d.Port direction shape) = shape_class IsScalar IsVector shape
class_of (d.Wire shape) = shape_class IsScalar IsVector shape
class_of (d.Reg shape) = shape_class IsScalar IsVector shape
class_of (d.Memory shape) = shape_class IsScalarMemory IsVectorMemory shape
class_of d.Instance = IsInstance

abbrev pub class_in : Names → List ℕ → Option Class
class_in names name = option_map class_of (value_of names name)
