-- The bits that some `always @*` of the design writes are those that some `always @*` of the instance does.
use Rattle.std.proofs.Common.{◌≡◌, ℕ, zero, suc, ◌+◌, ◌-◌, ◌<◌, ◌≤◌, nat_le, ◌&&◌, ◌||◌, Bool, true, false, List, [], ◌∷◌, ◌++◌}
use Rattle.std.proofs.Common.{length, slice_get, Option, None, Some, refl, sym, ap, ◌∙◌, arith}
use Rattle.std.proofs.lemmas.Bool.{leb-true, le-leb, and_parts}
use Rattle.std.proofs.lemmas.Option.{slice_get_within}
use Rattle.std.proofs.lemmas.List.Folds.{list_any-append}
use Rattle.std.specs.List.{Contains, AllZip, list_any}
use Rattle.std.proofs.Math.Bool.{and-false, or-false}
use Rattle.vlog_tree.specs.Tree.{IdentOf, ExprOf, TargetOf, EventOf, PosedgeEvent, ImplicitEvent, AlwaysOf, InstanceOf}
use Rattle.vlog_tree.specs.Tree.{ItemOf, WiresItem, DrivenWiresItem, RegsItem, LocalparamsItem, AssignItem, AlwaysItem, InstanceItem}
use Rattle.flat_parts.specs.vlog_size.declared.scope.ScopeNet.{ScopeNet}
use Rattle.flat_parts.specs.vlog_size.Names.{Readable}
use Rattle.flat_parts.specs.vlog_size.Table.{Named, value_of}
use Rattle.flat_parts.specs.vlog_names.Entries.{declared}
use Rattle.net_design.specs.declared.design.Driver.{Driver}
use Rattle.net_design.specs.Bits.{named}
use Rattle.flat_parts.specs.vlog_block.Written.{always_writes}
use Rattle.flat_parts.specs.vlog_driver.Blocks.{is_there}
use Rattle.flat_parts.proofs.vlog_driver_lemmas.There.{body_there}
use Rattle.flat_parts.specs.vlog_names.Ports.{is_output}
use Rattle.flat_parts.specs.vlog_driver.Placed.{Placed, placed_items, names_at}
use Rattle.flat_parts.specs.vlog_driver.Settled.{event_writes, item_writes}
use Rattle.flat_parts.specs.vlog_driver.Items.{target_of}
use Rattle.flat_parts.specs.vlog_driver.Sites.{Site, bits_at}
use Rattle.flat_parts.specs.vlog_driver.Duties.{Duty, Assigns, Settles, Does, wire_duty, assign_duty, event_duties, output_duties, join_duties}
use Rattle.flat_parts.specs.vlog_driver.Duties.{conn_duties}
use Rattle.flat_parts.specs.vlog_driver.Held.{item_duties}
use Rattle.flat_parts.specs.vlog_elab.Instances.{ModuleInstance}
use Rattle.flat_parts.specs.Seats.{Seat, seats_of, site_at, seat_named}
use Rattle.flat_parts.specs.Drivers.{joined_duties, child_duties, duties_at, placed_duties, seat_duties, all_duties}
use Rattle.flat_parts.specs.State.{always_writes_bit}
use Rattle.flat_parts.specs.Laws.{IsNetOf, NetsHaveOneSeat}
use Rattle.flat_registers.proofs.Lists.{any_found, any_one, any_same, any_and, any_zip, any_flat}
use Rattle.flat_registers.proofs.Lists.{flat_none, map_none}

-- ---- drivers and duties

-- whether what a driver is to do is an `always @*` that may write bit k of net m
abbrev pub duty_writes : ℕ → ℕ → Duty → Bool
duty_writes m k (Assigns line to target from e) = false
duty_writes m k (Settles p a) = bits_at p (always_writes p.names a) m k

driver_writes : (x : Duty) (d : Driver) (m k : ℕ) → Does x d → (d.always && named d.code.writes m k) ≡ duty_writes m k x
driver_writes (Assigns line to target from e) d m k h = ap (λ b. b && named d.code.writes m k) h.always
driver_writes (Settles p a) d m k h = ap (λ b. b && named d.code.writes m k) h.always ∙ h.writes m k

drivers_write : (duties : List Duty) (drivers : List Driver) (m k : ℕ) → AllZip Does duties drivers
    → always_writes_bit drivers m k ≡ list_any (duty_writes m k) duties
drivers_write duties drivers m k h =
    any_zip Does (duty_writes m k) (λ (d : Driver). d.always && named d.code.writes m k) (λ x d. driver_writes x d m k) duties drivers h

-- ---- the duties of an item

-- whether some `always @*` of an instance may write bit k of its net j
abbrev pub own_writes : Seat → ℕ → ℕ → Bool
own_writes x j k =
    list_any (λ (p : Placed). item_writes (names_at x.instance.scope p.declared) p.item j k) (placed_items x.instance.tree x.instance.scope)

-- the same of net m of the design
abbrev pub seat_writes : ℕ → ℕ → Seat → Bool
seat_writes m k x = nat_le x.base.net m && own_writes x (m - x.base.net) k

module _ (m k : ℕ) where
  event_any : (event : EventOf ℕ) (p : Site) (a : AlwaysOf ℕ)
      → list_any (duty_writes m k) (event_duties event p a) ≡ (nat_le p.base.net m && event_writes event p.names a (m - p.base.net) k)
  event_any (PosedgeEvent clock) p a = sym (and-false (nat_le p.base.net m))
  event_any (ImplicitEvent parens) p a = or-false (bits_at p (always_writes p.names a) m k)

  item_any : (p : Site) (item : ItemOf ℕ)
      → list_any (duty_writes m k) (item_duties p item) ≡ (nat_le p.base.net m && item_writes p.names item (m - p.base.net) k)
  item_any p (WiresItem range ids) = sym (and-false (nat_le p.base.net m))
  item_any p (DrivenWiresItem range ws) = map_none (duty_writes m k) (wire_duty p) (λ w. refl) ws ∙ sym (and-false (nat_le p.base.net m))
  item_any p (RegsItem range gs) = sym (and-false (nat_le p.base.net m))
  item_any p (LocalparamsItem range vs) = sym (and-false (nat_le p.base.net m))
  item_any p (AssignItem assigns) = map_none (duty_writes m k) (assign_duty p) (λ a. refl) assigns ∙ sym (and-false (nat_le p.base.net m))
  item_any p (AlwaysItem a) = event_any a.event p a
  item_any p (InstanceItem i) = sym (and-false (nat_le p.base.net m))

  output_none : (p q : Site) (line : ℕ) (port : IdentOf ℕ) (o : Option (TargetOf ℕ))
      → list_any (duty_writes m k) (output_duties p q line port o) ≡ false
  output_none p q line port None = refl
  output_none p q line port (Some target) = refl

  join_none : (output : Bool) (p q : Site) (line : ℕ) (port : IdentOf ℕ) (o : Option (ExprOf ℕ))
      → list_any (duty_writes m k) (join_duties output p q line port o) ≡ false
  join_none output p q line port None = refl
  join_none false p q line port (Some e) = refl
  join_none true p q line port (Some e) = output_none p q line port (target_of e)

  joined_none : (p : Site) (i : InstanceOf ℕ) (o : Option Seat) → list_any (duty_writes m k) (joined_duties p i o) ≡ false
  joined_none p i None = refl
  joined_none p i (Some q) =
      flat_none (duty_writes m k) (conn_duties (declared q.instance.tree) p (site_at q q.instance.scope.declared))
      (λ c. join_none (is_output (value_of (declared q.instance.tree) c.id.name)) p (site_at q q.instance.scope.declared) c.line c.id
      c.value)
      i.ports

  child_none : (xs : List Seat) (x : Seat) (n : ℕ) (item : ItemOf ℕ) → list_any (duty_writes m k) (child_duties xs x n item) ≡ false
  child_none xs x n (WiresItem range ids) = refl
  child_none xs x n (DrivenWiresItem range ws) = refl
  child_none xs x n (RegsItem range gs) = refl
  child_none xs x n (LocalparamsItem range vs) = refl
  child_none xs x n (AssignItem assigns) = refl
  child_none xs x n (AlwaysItem a) = refl
  child_none xs x n (InstanceItem i) = joined_none (site_at x n) i (seat_named xs (x.instance.path ++ i.id.name ∷ []))

  duties_any : (xs : List Seat) (x : Seat) (n : ℕ) (item : ItemOf ℕ) → list_any (duty_writes m k) (duties_at xs x n item)
      ≡ (nat_le x.base.net m && item_writes (names_at x.instance.scope n) item (m - x.base.net) k)
  duties_any xs x n item =
      list_any-append (duty_writes m k) (item_duties (site_at x n) item) (child_duties xs x n item)
      ∙ ap (λ b. list_any (duty_writes m k) (item_duties (site_at x n) item) || b) (child_none xs x n item)
      ∙ or-false (list_any (duty_writes m k) (item_duties (site_at x n) item))
      ∙ item_any (site_at x n) item

  -- ---- the duties of all instances

  seat_any : (xs : List Seat) (x : Seat) → list_any (duty_writes m k) (seat_duties xs x) ≡ seat_writes m k x
  unfolding seat_duties
  seat_any xs x =
      any_flat (duty_writes m k) (placed_duties xs x) (placed_items x.instance.tree x.instance.scope)
      ∙ any_same (λ (p : Placed). list_any (duty_writes m k) (placed_duties xs x p))
      (λ (p : Placed). nat_le x.base.net m && item_writes (names_at x.instance.scope p.declared) p.item (m - x.base.net) k)
      (λ p. duties_any xs x p.declared p.item) (placed_items x.instance.tree x.instance.scope)
      ∙ any_and (nat_le x.base.net m) (λ (p : Placed). item_writes (names_at x.instance.scope p.declared) p.item (m - x.base.net) k)
      (placed_items x.instance.tree x.instance.scope)

  all_any : (xs : List Seat) → list_any (duty_writes m k) (all_duties xs) ≡ list_any (seat_writes m k) xs
  unfolding all_duties
  all_any xs =
      any_flat (duty_writes m k) (seat_duties xs) xs
      ∙ any_same (λ (x : Seat). list_any (duty_writes m k) (seat_duties xs x)) (seat_writes m k) (seat_any xs) xs

-- ---- the instance whose net it is

event_there : (event : EventOf ℕ) (r : Readable) (a : AlwaysOf ℕ) (j k : ℕ) → event_writes event r a j k ≡ true → is_there r.nets j k ≡ true
event_there (PosedgeEvent clock) r a j k h = absurd (cc)
event_there (ImplicitEvent parens) r a j k h = body_there r j k a.body h

item_there : (r : Readable) (item : ItemOf ℕ) (j k : ℕ) → item_writes r item j k ≡ true → is_there r.nets j k ≡ true
item_there r (WiresItem range ids) j k h = absurd (cc)
item_there r (DrivenWiresItem range ws) j k h = absurd (cc)
item_there r (RegsItem range gs) j k h = absurd (cc)
item_there r (LocalparamsItem range vs) j k h = absurd (cc)
item_there r (AssignItem assigns) j k h = absurd (cc)
item_there r (AlwaysItem a) j k h = event_there a.event r a j k h
item_there r (InstanceItem i) j k h = absurd (cc)

there_below : (nets : List (Named ScopeNet)) (j k : ℕ) → is_there nets j k ≡ true → j < length nets
there_below [] j k h = absurd (cc)
there_below (x ∷ xs) zero k h = omega arith
there_below (x ∷ xs) (suc j) k h = let l : j < length xs = there_below xs j k h in omega (arith, l)

own_below : (x : Seat) (j k : ℕ) → own_writes x j k ≡ true → j < length x.instance.scope.nets
own_below x j k h =
    let r = any_found (λ (p : Placed). item_writes (names_at x.instance.scope p.declared) p.item j k)
    (placed_items x.instance.tree x.instance.scope) h in
    there_below x.instance.scope.nets j k (item_there (names_at x.instance.scope r.0.declared) r.0.item j k r.2)

module _ (one : NetsHaveOneSeat) (is : List ModuleInstance) (x : Seat) (j : ℕ) (n : Named ScopeNet) (c : Contains (seats_of is) x)
    (there : slice_get x.instance.scope.nets j ≡ Some n) where
  pub own_net : IsNetOf (seats_of is) (x.base.net + j) x j
  own_net = record { seat = c; place = refl; there = slice_get_within x.instance.scope.nets j n there }

  other_writes : (k : ℕ) (y : Seat) → Contains (seats_of is) y → seat_writes (x.base.net + j) k y ≡ true → x ≡ y
  other_writes k y d h =
      let parts = and_parts (nat_le y.base.net (x.base.net + j)) (own_writes y ((x.base.net + j) - y.base.net) k) h in
      let l : y.base.net ≤ x.base.net + j = leb-true y.base.net (x.base.net + j) parts.0 in
      let below = own_below y ((x.base.net + j) - y.base.net) k parts.1 in
      (one is (x.base.net + j) j ((x.base.net + j) - y.base.net) x y own_net (record { seat = d; place = omega (arith, l); there = below })).0

  own_test : (k : ℕ) → seat_writes (x.base.net + j) k x ≡ own_writes x j k
  own_test k =
      let l : x.base.net ≤ x.base.net + j = omega arith in
      let e : (x.base.net + j) - x.base.net ≡ j = omega arith in
      ap (λ b. b && own_writes x ((x.base.net + j) - x.base.net) k) (le-leb x.base.net (x.base.net + j) l) ∙ ap (λ i. own_writes x i k) e

  pub writes_alike : (drivers : List Driver) (k : ℕ) → AllZip Does (all_duties (seats_of is)) drivers
      → always_writes_bit drivers (x.base.net + j) k ≡ own_writes x j k
  writes_alike drivers k h =
      drivers_write (all_duties (seats_of is)) drivers (x.base.net + j) k h
      ∙ all_any (x.base.net + j) k (seats_of is)
      ∙ any_one (seat_writes (x.base.net + j) k) x (seats_of is) c (other_writes k)
      ∙ own_test k
