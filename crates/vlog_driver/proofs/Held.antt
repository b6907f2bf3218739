-- The drivers of an item hold exactly where the item holds.
use Rattle.std.proofs.Common.{◌≡◌, ℕ, ◌↔◌, Bool, true, false, List, [], ◌∷◌, map, Option, Some, None, refl, subst}
use Rattle.std.specs.List.{flat_map, AllByRecursion}
use Rattle.net_drive.proofs.vidi_bits_lemmas.Each.{same_both, nothing, then_so, split}
use Rattle.vlog_tree.specs.Tree.{IdentOf, ExprOf, TargetOf, EventOf, PosedgeEvent, ImplicitEvent, AlwaysOf}
use Rattle.vlog_tree.specs.Tree.{ConnOf}
use Rattle.vlog_tree.specs.Tree.{ItemOf, WiresItem, DrivenWiresItem, RegsItem, LocalparamsItem, AssignItem, AlwaysItem, InstanceItem}
use Rattle.vlog_tree.specs.Tree.{ModuleOf}
use Rattle.vlog_block.specs.vlog_size.declared.scope.Scope.{Scope}
use Rattle.vlog_block.specs.vlog_size.Table.{value_of}
use Rattle.vlog_names.specs.Entries.{declared}
use Rattle.vlog_names.specs.Ports.{is_output}
use Rattle.net_design.specs.declared.design.Driver.{Driver}
use Rattle.net_design.specs.declared.values.Values.{Values}
use Rattle.net_design.specs.Updates.{run}
use Rattle.net_design.specs.Last.{IsNarrow}
use Rattle.vlog_driver.specs.Names.{Full, numbers_at}
use Rattle.vlog_driver.specs.Placed.{names_at}
use Rattle.vlog_driver.specs.Items.{IsAssigned, AssignHolds, WireHolds, EventHolds, JoinHolds, ConnHolds, HoldsAt, target_of, whole, read}
use Rattle.vlog_driver.proofs.SameHolds.{assigned_alike, settled_alike}
use Rattle.vlog_driver.specs.Sites.{Site, numbers_from}
use Rattle.vlog_driver.specs.Duties.{Duty, Assigns, Settles, Does, wire_duty, assign_duty, event_duties, output_duties}
use Rattle.vlog_driver.specs.Duties.{join_duties, conn_duties}
use Rattle.vlog_driver.specs.Held.{DutyHolds, DutiesHold, DriversDoDuties, IsNoInstance, StandsAt, item_duties, ItemsAreDuties}
use Rattle.vlog_driver.specs.Held.{ConnsAreDuties}

-- ---- equivalences

alone : {A B : Type 0} → A ↔ B → (A × Unit {0}) ↔ B
alone f = ((λ h. f.0 h.0), (λ h. (f.1 h, tt)))

always_so : {A : Type 0} → A → Unit {0} ↔ A
always_so a = ((λ h. a), (λ h. tt))

each : {X : Type 0} (P : Duty → Type 0) (Q : X → Type 0) (f : X → Duty) → ((x : X) → P (f x) ↔ Q x) → (xs : List X)
    → AllByRecursion P (map f xs) ↔ AllByRecursion Q xs
each P Q f h [] = nothing
each P Q f h (x ∷ xs) = same_both (h x) (each P Q f h xs)

some_same : (x y : TargetOf ℕ) → Some x ≡ Some y → x ≡ y
some_same x y h = (cc)

-- ---- drivers
driver_does : (x : Duty) (d : Driver) (v : Values) → Does x d → IsNarrow v → (run d.code.acts v ≡ v) ↔ DutyHolds v x
driver_does (Assigns line to target from e) d v h narrow = h.holds v narrow
driver_does (Settles p a) d v h narrow = h.holds v narrow

pub drivers_do : DriversDoDuties
drivers_do [] [] v h narrow = nothing
drivers_do [] (d ∷ ds) v h narrow = absurd h
drivers_do (x ∷ xs) [] v h narrow = absurd h
drivers_do (x ∷ xs) (d ∷ ds) v h narrow = same_both (driver_does x d v h.0 narrow) (drivers_do xs ds v h.1 narrow)

-- ---- items
module _ (nets : Full → ℕ) (words : Full → ℕ → ℕ) where
  assigned_there : (path inner : Full) (s t : Scope) (k j : ℕ) (p q : Site) (v : Values) (target : TargetOf ℕ) (e : ExprOf ℕ)
      → StandsAt nets words path s k p v → StandsAt nets words inner t j q v
      → IsAssigned p.names (numbers_from p v) target q.names (numbers_from q v) e
      ↔ IsAssigned (names_at s k) (numbers_at nets words path s) target (names_at t j) (numbers_at nets words inner t) e
  assigned_there path inner s t k j p q v target e h g =
      let alike = assigned_alike p.names q.names (numbers_from p v) (numbers_at nets words path s) (numbers_from q v)
      (numbers_at nets words inner t) target e h.numbers g.numbers in
      subst (λ r. IsAssigned p.names (numbers_from p v) target q.names (numbers_from q v) e
      ↔ IsAssigned r (numbers_at nets words path s) target (names_at t j) (numbers_at nets words inner t) e) h.names
      (subst (λ r. IsAssigned p.names (numbers_from p v) target q.names (numbers_from q v) e
      ↔ IsAssigned p.names (numbers_at nets words path s) target r (numbers_at nets words inner t) e) g.names alike)

  event_there : (path : Full) (s : Scope) (k : ℕ) (p : Site) (v : Values) (a : AlwaysOf ℕ) (event : EventOf ℕ)
      → StandsAt nets words path s k p v
      → DutiesHold v (event_duties event p a) ↔ EventHolds event (names_at s k) (numbers_at nets words path s) a
  event_there path s k p v a (PosedgeEvent clock) h = nothing
  event_there path s k p v a (ImplicitEvent parens) h =
      alone (subst (λ r. DutyHolds v (Settles p a) ↔ EventHolds (ImplicitEvent parens) r (numbers_at nets words path s) a) h.names
      (settled_alike p.names (numbers_from p v) (numbers_at nets words path s) a h.numbers))

  item_there : (file : List (ModuleOf ℕ)) (path : Full) (s : Scope) (k : ℕ) (p : Site) (v : Values) (item : ItemOf ℕ)
      → StandsAt nets words path s k p v → IsNoInstance item
      → DutiesHold v (item_duties p item) ↔ HoldsAt file nets words path s k item
  item_there file path s k p v (WiresItem range ids) h none = nothing
  item_there file path s k p v (DrivenWiresItem range ws) h none =
      each (DutyHolds v) (WireHolds (names_at s k) (numbers_at nets words path s)) (wire_duty p)
      (λ w. assigned_there path path s s k k p p v (whole w.id) w.value h h) ws
  item_there file path s k p v (RegsItem range gs) h none = nothing
  item_there file path s k p v (LocalparamsItem range vs) h none = nothing
  item_there file path s k p v (AssignItem assigns) h none =
      each (DutyHolds v) (AssignHolds (names_at s k) (numbers_at nets words path s)) (assign_duty p)
      (λ a. assigned_there path path s s k k p p v a.target a.value h h) assigns
  item_there file path s k p v (AlwaysItem a) h none = event_there path s k p v a a.event h
  item_there file path s k p v (InstanceItem i) h none = absurd none

  -- ---- connections
  output_there : (path inner : Full) (s t : Scope) (k j : ℕ) (p q : Site) (v : Values) (line : ℕ) (port : IdentOf ℕ)
      (o : Option (TargetOf ℕ)) → StandsAt nets words path s k p v → StandsAt nets words inner t j q v
      → DutiesHold v (output_duties p q line port o)
      ↔ ((target : TargetOf ℕ) → o ≡ Some target
      → IsAssigned (names_at s k) (numbers_at nets words path s) target (names_at t j) (numbers_at nets words inner t) (read port))
  output_there path inner s t k j p q v line port None h g = always_so (λ target e. absurd (cc))
  output_there path inner s t k j p q v line port (Some x) h g =
      let there = assigned_there path inner s t k j p q v x (read port) h g in
      let Holds : TargetOf ℕ → Type 0 = λ target. IsAssigned (names_at s k) (numbers_at nets words path s) target (names_at t j)
      (numbers_at nets words inner t) (read port) in (
        (λ (d : DutiesHold v (output_duties p q line port (Some x))) target e. subst Holds (some_same x target e) (there.0 d.0)),
        (λ f. (there.1 (f x refl), tt)),
      )

  join_there : (path inner : Full) (s t : Scope) (k j : ℕ) (p q : Site) (v : Values) (output : Bool) (line : ℕ) (port : IdentOf ℕ)
      (o : Option (ExprOf ℕ)) → StandsAt nets words path s k p v → StandsAt nets words inner t j q v
      → DutiesHold v (join_duties output p q line port o)
      ↔ JoinHolds output (names_at s k) (numbers_at nets words path s) (names_at t j) (numbers_at nets words inner t) port o
  join_there path inner s t k j p q v output line port None h g = nothing
  join_there path inner s t k j p q v false line port (Some e) h g =
      alone (assigned_there inner path t s j k q p v (whole port) e g h)
  join_there path inner s t k j p q v true line port (Some e) h g = output_there path inner s t k j p q v line port (target_of e) h g

  conns_there : (path inner : Full) (s t : Scope) (k j : ℕ) (p q : Site) (v : Values) (child : ModuleOf ℕ) (conns : List (ConnOf ℕ))
      → StandsAt nets words path s k p v → StandsAt nets words inner t j q v
      → DutiesHold v (flat_map (conn_duties (declared child) p q) conns)
      ↔ AllByRecursion (ConnHolds child (names_at s k) (numbers_at nets words path s) (names_at t j) (numbers_at nets words inner t)) conns
  conns_there path inner s t k j p q v child [] h g = nothing
  conns_there path inner s t k j p q v child (c ∷ cs) h g =
      then_so (split (DutyHolds v) (conn_duties (declared child) p q c) (flat_map (conn_duties (declared child) p q) cs))
      (same_both (join_there path inner s t k j p q v (is_output (value_of (declared child) c.id.name)) c.line c.id c.value h g)
      (conns_there path inner s t k j p q v child cs h g))

pub items_are : ItemsAreDuties
items_are file nets words path s k p v item h none = item_there nets words file path s k p v item h none

pub conns_are : ConnsAreDuties
conns_are nets words path inner s t k j p q v child i h g = conns_there nets words path inner s t k j p q v child i.ports h g
