-- The duties of the drivers hold exactly where the items of all instances do.
use Rattle.std.proofs.Common.{◌≡◌, ◌≢◌, ℕ, ◌↔◌, List, [], ◌∷◌, ◌++◌, Some, refl, ap, sym, subst, ◌∙◌}
use Rattle.std.specs.List.{AllByRecursion, AllPairs, Contains}
use Rattle.vlog_elab.proofs.vidi_bits_lemmas.Each.{then_so}
use Rattle.vlog_tree.specs.Tree.{InstanceOf, ItemOf, WiresItem, DrivenWiresItem, RegsItem, LocalparamsItem, AssignItem, AlwaysItem}
use Rattle.vlog_tree.specs.Tree.{InstanceItem, ModuleOf}
use Rattle.vlog_elab.specs.vlog_size.declared.scope.Scope.{Scope}
use Rattle.vlog_elab.specs.vlog_scope.Scope.{readable_at, scope_of, scope_with}
use Rattle.vlog_elab.specs.Instances.{ModuleInstance}
use Rattle.vlog_driver.specs.Names.{Full, numbers_at}
use Rattle.vlog_driver.specs.Placed.{Placed, placed_items, names_at}
use Rattle.vlog_driver.specs.Instances.{IsChild, IsAt}
use Rattle.vlog_driver.specs.Items.{ConnsHold, HoldsAt, ItemHolds}
use Rattle.vlog_driver.specs.Held.{DutyHolds, DutiesHold, IsNoInstance, StandsAt, item_duties}
use Rattle.vlog_driver.proofs.Held.{items_are, conns_are}
use Rattle.flat_parts.specs.Seats.{Seat, seats_of, site_at, seat_named}
use Rattle.flat_parts.specs.Drivers.{joined_duties, duties_at, placed_duties, seat_duties, all_duties}
use Rattle.flat_parts.specs.Laws.{IsListed, numbers_of}
use Rattle.flat_parts.proofs.SettledLists.{each_flat, each_alike, past_nil}
use Rattle.flat_parts.proofs.SettledPaths.{one_further, stays_in, over_instances, one_path, each_seat, seated_listed, IsFound, has_seat}
use Rattle.flat_parts.proofs.Unfound.{IsDeclared, placed_in}

-- the instances of a file: all that its paths lead to, no two at the same path, and the module of each instance item is declared
pub record AreInstances (file : List (ModuleOf ℕ)) (top : ModuleOf ℕ) (is : List ModuleInstance) : Type 0 where
  pub listed : (path : Full) (m : ModuleOf ℕ) (s : Scope) → IsListed is path m s ↔ IsAt file top path m s
  pub differ : AllPairs (λ (a b : ModuleInstance). a.path ≢ b.path) is
  pub top_there : Contains file top
  pub known : (m : ModuleOf ℕ) (i : InstanceOf ℕ) → Contains file m → Contains m.items (InstanceItem i)
      → IsDeclared file i.module_id.name

-- the numbers of each instance stand at its seat
abbrev pub Stand : (Full → ℕ) → (Full → ℕ → ℕ) → List ModuleInstance → Type 0
Stand nets words is = (x : Seat) (k : ℕ) → Contains (seats_of is) x
    → StandsAt nets words x.instance.path x.instance.scope k (site_at x k) (numbers_of nets words is)

module _ (file : List (ModuleOf ℕ)) (top : ModuleOf ℕ) (is : List ModuleInstance) (tree : AreInstances file top is)
    (nets : Full → ℕ) (words : Full → ℕ → ℕ) (stand : Stand nets words is) where
  -- ---- an instance in an instance
  module _ (x : Seat) (k : ℕ) (i : InstanceOf ℕ) (there : Contains (seats_of is) x)
      (placed : Contains (placed_items x.instance.tree x.instance.scope) (record { declared = k; item = InstanceItem i })) where
    abbrev inner : Full
    inner = x.instance.path ++ i.id.name ∷ []

    abbrev scope_in : ModuleOf ℕ → Scope
    scope_in c = scope_of (readable_at x.instance.scope k) i.parameters c

    at_seat : IsAt file top x.instance.path x.instance.tree x.instance.scope
    at_seat = (tree.listed x.instance.path x.instance.tree x.instance.scope).0 (x.instance, seated_listed is x there, refl, refl, refl)

    at_child : (c : ModuleOf ℕ) → Contains file c → c.name ≡ i.module_id.name → IsListed is inner c (scope_in c)
    at_child c in_file named =
        let child : IsChild file x.instance.tree x.instance.scope i c (scope_in c) =
        record { declared = k; stands = placed; in_file = in_file; named = named; scope = refl } in
        (tree.listed inner c (scope_in c)).1
        (one_further file top (scope_with [] top) x.instance.path x.instance.tree x.instance.scope i c (scope_in c) at_seat child)

    -- the instance that is found there is of the child's module
    pub record IsOf (q : Seat) (c : ModuleOf ℕ) : Type 0 where
      pub module_is : q.instance.tree ≡ c
      pub scope_is : q.instance.scope ≡ scope_in c

    found_is : (q : Seat) → Contains (seats_of is) q → q.instance.path ≡ inner → (c : ModuleOf ℕ) → IsListed is inner c (scope_in c)
        → IsOf q c
    found_is q c path m l =
        let same : q.instance ≡ l.0 = one_path is tree.differ q.instance l.0 (seated_listed is q c) l.1 (path ∙ sym l.2) in record {
          module_is = ap (λ (j : ModuleInstance). j.tree) same ∙ l.3;
          scope_is = ap (λ (j : ModuleInstance). j.scope) same ∙ l.4;
        }

    abbrev ConnsOf : ModuleOf ℕ → Type 0
    ConnsOf c = ConnsHold c (names_at x.instance.scope k) (numbers_at nets words x.instance.path x.instance.scope)
        (names_at (scope_in c) (scope_in c).declared) (numbers_at nets words inner (scope_in c)) i

    abbrev JoinedHold : Seat → Type 0
    JoinedHold q = DutiesHold (numbers_of nets words is) (joined_duties (site_at x k) i (Some q))

    -- the connections' duties hold where the connections do
    conns_alike : (q : Seat) → Contains (seats_of is) q → q.instance.path ≡ inner → (c : ModuleOf ℕ) → IsOf q c
        → JoinedHold q ↔ ConnsOf c
    conns_alike q seated path c own =
        let Conns : Full → Scope → ModuleOf ℕ → Type 0 = λ p t m. ConnsHold m (names_at x.instance.scope k)
        (numbers_at nets words x.instance.path x.instance.scope) (names_at t t.declared) (numbers_at nets words p t) i in
        let here : JoinedHold q ↔ Conns q.instance.path q.instance.scope q.instance.tree =
        conns_are nets words x.instance.path q.instance.path x.instance.scope q.instance.scope k q.instance.scope.declared (site_at x k)
        (site_at q q.instance.scope.declared) (numbers_of nets words is) q.instance.tree i (stand x k there)
        (stand q q.instance.scope.declared seated) in
        subst (λ m. JoinedHold q ↔ Conns inner (scope_in c) m) own.module_is
        (subst (λ t. JoinedHold q ↔ Conns inner t q.instance.tree) own.scope_is
        (subst (λ p. JoinedHold q ↔ Conns p q.instance.scope q.instance.tree) path here))

    child_alike : (q : Seat) → IsFound (seats_of is) inner q → IsDeclared file i.module_id.name
        → DutiesHold (numbers_of nets words is) (joined_duties (site_at x k) i (seat_named (seats_of is) inner))
        ↔ HoldsAt file nets words x.instance.path x.instance.scope k (InstanceItem i)
    child_alike q found d =
        let alike : (c : ModuleOf ℕ) → Contains file c → c.name ≡ i.module_id.name → JoinedHold q ↔ ConnsOf c =
        λ c in_file named. conns_alike q found.there found.leads c (found_is q found.there found.leads c (at_child c in_file named)) in
        let moved : JoinedHold q
        ↔ HoldsAt file nets words x.instance.path x.instance.scope k (InstanceItem i) = (
          (λ h c in_file named. (alike c in_file named).0 h),
          (λ h. (alike d.child d.in_file d.named).1 (h d.child d.in_file d.named)),
        ) in
        subst (λ o. DutiesHold (numbers_of nets words is) (joined_duties (site_at x k) i o)
        ↔ HoldsAt file nets words x.instance.path x.instance.scope k (InstanceItem i)) (sym found.named) moved

    seat_in : IsDeclared file i.module_id.name → (q : Seat) × IsFound (seats_of is) inner q
    seat_in d =
        let l = at_child d.child d.in_file d.named in
        subst (λ p. (q : Seat) × IsFound (seats_of is) p q) l.2 (has_seat is l.0 l.1)

    pub instance_alike : DutiesHold (numbers_of nets words is) (duties_at (seats_of is) x k (InstanceItem i))
        ↔ HoldsAt file nets words x.instance.path x.instance.scope k (InstanceItem i)
    instance_alike =
        let in_file : Contains file x.instance.tree =
        stays_in file top (scope_with [] top) x.instance.path x.instance.tree x.instance.scope tree.top_there at_seat in
        let d : IsDeclared file i.module_id.name =
        tree.known x.instance.tree i in_file
        (placed_in x.instance.tree x.instance.scope (record { declared = k; item = InstanceItem i }) placed) in
        let f = seat_in d in
        child_alike f.0 f.1 d

  -- ---- items
  plain_alike : (x : Seat) (k : ℕ) (item : ItemOf ℕ) → Contains (seats_of is) x → IsNoInstance item
      → DutiesHold (numbers_of nets words is) (item_duties (site_at x k) item ++ [])
      ↔ HoldsAt file nets words x.instance.path x.instance.scope k item
  plain_alike x k item there none =
      then_so (past_nil (DutyHolds (numbers_of nets words is)) (item_duties (site_at x k) item))
      (items_are file nets words x.instance.path x.instance.scope k (site_at x k) (numbers_of nets words is) item (stand x k there) none)

  item_alike : (x : Seat) (k : ℕ) (item : ItemOf ℕ) → Contains (seats_of is) x
      → Contains (placed_items x.instance.tree x.instance.scope) (record { declared = k; item = item })
      → DutiesHold (numbers_of nets words is) (duties_at (seats_of is) x k item)
      ↔ HoldsAt file nets words x.instance.path x.instance.scope k item
  item_alike x k (WiresItem range ids) there placed = plain_alike x k (WiresItem range ids) there tt
  item_alike x k (DrivenWiresItem range ws) there placed = plain_alike x k (DrivenWiresItem range ws) there tt
  item_alike x k (RegsItem range gs) there placed = plain_alike x k (RegsItem range gs) there tt
  item_alike x k (LocalparamsItem range vs) there placed = plain_alike x k (LocalparamsItem range vs) there tt
  item_alike x k (AssignItem assigns) there placed = plain_alike x k (AssignItem assigns) there tt
  item_alike x k (AlwaysItem a) there placed = plain_alike x k (AlwaysItem a) there tt
  item_alike x k (InstanceItem i) there placed = instance_alike x k i there placed

  -- what the items of an instance ask
  abbrev pub ItemsHold : Full → ModuleOf ℕ → Scope → Type 0
  ItemsHold path m s = AllByRecursion (ItemHolds file nets words path s) (placed_items m s)

  abbrev pub ItemsOf : ModuleInstance → Type 0
  ItemsOf i = ItemsHold i.path i.tree i.scope

  seat_alike : (x : Seat) → Contains (seats_of is) x
      → DutiesHold (numbers_of nets words is) (seat_duties (seats_of is) x) ↔ ItemsOf x.instance
  unfolding seat_duties
  seat_alike x there =
      then_so (each_flat (DutyHolds (numbers_of nets words is)) (placed_duties (seats_of is) x)
      (placed_items x.instance.tree x.instance.scope))
      (each_alike (λ (p : Placed). DutiesHold (numbers_of nets words is) (placed_duties (seats_of is) x p))
      (ItemHolds file nets words x.instance.path x.instance.scope) (placed_items x.instance.tree x.instance.scope)
      (λ p c. item_alike x p.declared p.item there c))

  duties_seats : DutiesHold (numbers_of nets words is) (all_duties (seats_of is))
      ↔ AllByRecursion (λ (x : Seat). ItemsOf x.instance) (seats_of is)
  unfolding all_duties
  duties_seats =
      then_so (each_flat (DutyHolds (numbers_of nets words is)) (seat_duties (seats_of is)) (seats_of is))
      (each_alike (λ x. DutiesHold (numbers_of nets words is) (seat_duties (seats_of is) x)) (λ x. ItemsOf x.instance) (seats_of is)
      seat_alike)

  -- all duties hold where the items of all instances do
  pub duties_alike : DutiesHold (numbers_of nets words is) (all_duties (seats_of is))
      ↔ ((path : Full) (m : ModuleOf ℕ) (s : Scope) → IsAt file top path m s → ItemsHold path m s)
  duties_alike =
      then_so duties_seats
      (then_so (each_seat ItemsOf is) (over_instances is (IsAt file top) tree.listed ItemsHold))
