-- That the drivers of an item hold exactly where the item holds.
use Rattle.std.specs.Prelude.{◌≡◌, ℕ, ◌↔◌, List, [], map}
use Rattle.std.specs.List.{flat_map, AllZip, AllByRecursion}
use Rattle.vlog_tree.specs.Tree.{InstanceOf, ItemOf, WiresItem, DrivenWiresItem, RegsItem, LocalparamsItem, AssignItem, AlwaysItem}
use Rattle.vlog_tree.specs.Tree.{InstanceItem, ModuleOf}
use Rattle.vlog_block.specs.vlog_size.declared.scope.Scope.{Scope}
use Rattle.vlog_names.specs.Entries.{declared}
use Rattle.net_design.specs.declared.design.Driver.{Driver}
use Rattle.net_design.specs.declared.values.Values.{Values}
use Rattle.net_design.specs.Updates.{run}
use Rattle.net_design.specs.Last.{HasLast, IsNarrow}
use Rattle.vlog_block.specs.Updates.{always_updates}
use Rattle.vlog_driver.specs.Names.{Full, numbers_at}
use Rattle.vlog_driver.specs.Placed.{names_at}
use Rattle.vlog_driver.specs.Items.{IsAssigned, ConnsHold, HoldsAt}
use Rattle.vlog_driver.specs.Own.{Agree}
use Rattle.vlog_driver.specs.Sites.{Site, numbers_from}
use Rattle.vlog_driver.specs.Duties.{Duty, Assigns, Settles, Does, wire_duty, assign_duty, always_duties, conn_duties}

-- what a driver is to do holds of the flat design's numbers
abbrev pub DutyHolds : Values → Duty → Type 0
DutyHolds v (Assigns line to target from e) = IsAssigned to.names (numbers_from to v) target from.names (numbers_from from v) e
DutyHolds v (Settles p a) = HasLast (always_updates p.names a (numbers_from p v)) (numbers_from p v)

abbrev pub DutiesHold : Values → List Duty → Type 0
DutiesHold v duties = AllByRecursion (DutyHolds v) duties

-- running any of the drivers changes nothing
abbrev pub DriversHold : Values → List Driver → Type 0
DriversHold v drivers = AllByRecursion (λ (d : Driver). run d.code.acts v ≡ v) drivers

abbrev pub DriversDoDuties : Type 0
DriversDoDuties = (duties : List Duty) (drivers : List Driver) (v : Values) → AllZip Does duties drivers → IsNarrow v
    → DriversHold v drivers ↔ DutiesHold v duties

-- the drivers of an item, but for those of an instance's connections
abbrev pub item_duties : Site → ItemOf ℕ → List Duty
item_duties p (WiresItem range ids) = []
item_duties p (DrivenWiresItem range ws) = map (wire_duty p) ws
item_duties p (RegsItem range gs) = []
item_duties p (LocalparamsItem range vs) = []
item_duties p (AssignItem assigns) = map (assign_duty p) assigns
item_duties p (AlwaysItem a) = always_duties p a
item_duties p (InstanceItem i) = []

abbrev pub IsNoInstance : ItemOf ℕ → Type 0
IsNoInstance (InstanceItem i) = ⊥
IsNoInstance item = Unit {0}

-- the numbers of the instance at a path are those of the flat design's list from its first places on
pub record StandsAt (nets : Full → ℕ) (words : Full → ℕ → ℕ) (path : Full) (s : Scope) (k : ℕ) (p : Site) (v : Values) : Type 0 where
  pub names : p.names ≡ names_at s k
  pub numbers : Agree p.names (numbers_from p v) (numbers_at nets words path s)

abbrev pub ItemsAreDuties : Type 0
ItemsAreDuties = (file : List (ModuleOf ℕ)) (nets : Full → ℕ) (words : Full → ℕ → ℕ) (path : Full) (s : Scope) (k : ℕ) (p : Site)
    (v : Values) (item : ItemOf ℕ) → StandsAt nets words path s k p v → IsNoInstance item
    → DutiesHold v (item_duties p item) ↔ HoldsAt file nets words path s k item

-- the same of the connections of a child, which stands at `inner` with the scope t
abbrev pub ConnsAreDuties : Type 0
ConnsAreDuties = (nets : Full → ℕ) (words : Full → ℕ → ℕ) (path inner : Full) (s t : Scope) (k j : ℕ) (p q : Site) (v : Values)
    (child : ModuleOf ℕ) (i : InstanceOf ℕ) → StandsAt nets words path s k p v → StandsAt nets words inner t j q v
    → DutiesHold v (flat_map (conn_duties (declared child) p q) i.ports)
    ↔ ConnsHold child (names_at s k) (numbers_at nets words path s) (names_at t j) (numbers_at nets words inner t) i
