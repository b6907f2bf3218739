-- The drivers and the clocked blocks that an instance's items make, in text order. A connection belongs to the
-- parent (this project's profile).
use Rattle.std.specs.Prelude.{ℕ, Bool, true, false, List, [], ◌∷◌, ◌++◌, Option, None, Some}
use Rattle.std.specs.List.{AllZip}
use Rattle.vlog_tree.specs.Tree.{IdentOf, ExprOf, TargetOf, NamedValueOf, AssignOf, EventOf, PosedgeEvent, ImplicitEvent, AlwaysOf, ConnOf}
use Rattle.vlog_tree.specs.Lines.{target_line}
use Rattle.vlog_block.specs.vlog_size.Table.{value_of}
use Rattle.vlog_names.specs.Entries.{Names}
use Rattle.vlog_names.specs.Ports.{is_output}
use Rattle.net_design.specs.declared.design.Driver.{Driver}
use Rattle.vlog_block.specs.Faultless.{IsFaultless, IsFaultlessTarget}
use Rattle.vlog_driver.specs.Items.{whole, read, target_of}
use Rattle.vlog_driver.specs.Sites.{Site}
use Rattle.vlog_driver.specs.Drivers.{IsAssignment, IsSettling}

-- what a driver is to do: on a line give a target of an instance the number of an expression of an instance, or what an `always @*` does
pub data Duty : Type 0 where
  Assigns : ℕ → Site → TargetOf ℕ → Site → ExprOf ℕ → Duty
  Settles : Site → AlwaysOf ℕ → Duty

abbrev pub Does : Duty → Driver → Type 0
Does (Assigns line to target from e) d = IsAssignment line to target from e d
Does (Settles p a) d = IsSettling p a d

-- the drivers of one list are those of these duties, and of another those of these and then of more
abbrev pub DoMore : List Duty → List Driver → List Driver → Type 0
DoMore more old new = (before : List Duty) → AllZip Does before old → AllZip Does (before ++ more) new

-- nothing is found in a wire, or in an assignment, of an instance
abbrev pub IsFaultlessWire : Site → NamedValueOf ℕ → Type 0
IsFaultlessWire p w = IsFaultlessTarget p.names (whole w.id) × IsFaultless p.names w.value

abbrev pub IsFaultlessAssign : Site → AssignOf ℕ → Type 0
IsFaultlessAssign p a = IsFaultlessTarget p.names a.target × IsFaultless p.names a.value

-- a wire's expression
abbrev pub wire_duty : Site → NamedValueOf ℕ → Duty
wire_duty p w = Assigns w.id.line p (whole w.id) p w.value

abbrev pub assign_duty : Site → AssignOf ℕ → Duty
assign_duty p a = Assigns (target_line a.target) p a.target p a.value

abbrev pub event_duties : EventOf ℕ → Site → AlwaysOf ℕ → List Duty
event_duties (PosedgeEvent clock) p a = []
event_duties (ImplicitEvent parens) p a = Settles p a ∷ []

abbrev pub always_duties : Site → AlwaysOf ℕ → List Duty
always_duties p a = event_duties a.event p a

-- a child's output goes to the target that the parent's expression has the form of
abbrev pub output_duties : Site → Site → ℕ → IdentOf ℕ → Option (TargetOf ℕ) → List Duty
output_duties p q line port None = []
output_duties p q line port (Some target) = Assigns line p target q (read port) ∷ []

abbrev pub input_duties : Site → Site → ℕ → IdentOf ℕ → ExprOf ℕ → List Duty
input_duties p q line port e = Assigns line q (whole port) p e ∷ []

abbrev pub join_duties : Bool → Site → Site → ℕ → IdentOf ℕ → Option (ExprOf ℕ) → List Duty
join_duties output p q line port None = []
join_duties false p q line port (Some e) = input_duties p q line port e
join_duties true p q line port (Some e) = output_duties p q line port (target_of e)

-- a connection of a port of a child, whose names these are
abbrev pub conn_duties : Names → Site → Site → ConnOf ℕ → List Duty
conn_duties child p q c = join_duties (is_output (value_of child c.id.name)) p q c.line c.id c.value

-- nothing is found in a connection
abbrev pub IsFaultlessForm : Site → Option (TargetOf ℕ) → Type 0
IsFaultlessForm p None = Unit {0}
IsFaultlessForm p (Some target) = IsFaultlessTarget p.names target

abbrev pub IsFaultlessJoin : Bool → Site → Site → IdentOf ℕ → Option (ExprOf ℕ) → Type 0
IsFaultlessJoin output p q port None = Unit {0}
IsFaultlessJoin false p q port (Some e) = IsFaultlessTarget q.names (whole port) × IsFaultless p.names e
IsFaultlessJoin true p q port (Some e) = IsFaultless q.names (read port) × IsFaultlessForm p (target_of e)

abbrev pub IsFaultlessConn : Names → Site → Site → ConnOf ℕ → Type 0
IsFaultlessConn child p q c = IsFaultlessJoin (is_output (value_of child c.id.name)) p q c.id c.value
