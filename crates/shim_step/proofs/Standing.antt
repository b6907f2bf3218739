-- Instances of plain modules in a settled map: their nets by name, their items, and their registers.
use Rattle.std.proofs.Common.{◌≡◌, ℕ, ◌/◌, ◌%◌, ◌<◌, ◌≤◌, ◌^◌, true, List, [], ◌∷◌, ◌++◌, map, length}
use Rattle.std.proofs.Common.{get_or, Some, refl, sym, ap, ◌∙◌, subst, arith, inl, inr, slice_get}
use Rattle.std.specs.Int.{bit_at}
use Rattle.std.specs.List.{AllByRecursion, Contains, flat_map}
use Rattle.std.proofs.lemmas.List.{length-map, get_or-map}
use Rattle.std.proofs.lemmas.Nat.{pow_pos, mod_below, shr_split}
use Rattle.std.proofs.lemmas.Nat.Bits.{bit_at_cat_low, same_from_bits_below}
use Rattle.std.proofs.lemmas.Option.{get_or_from_slice_get}
use Rattle.vlog_tree.specs.Tree.{PortOf, PortHeadOf, ConnOf, InstanceOf, ItemOf, WiresItem, DrivenWiresItem, RegsItem, LocalparamsItem}
use Rattle.vlog_tree.specs.Tree.{AssignItem, AlwaysItem, InstanceItem, ModuleOf}
use Rattle.flat_parts.specs.vlog_size.declared.scope.ScopeNet.{ScopeNet}
use Rattle.flat_parts.specs.vlog_size.declared.scope.Scope.{Scope}
use Rattle.flat_parts.specs.vlog_size.Names.{Readable, params_alone}
use Rattle.flat_parts.specs.vlog_size.Table.{Named}
use Rattle.flat_parts.specs.vlog_names.Entries.{declared}
use Rattle.flat_parts.specs.vlog_names.Ports.{has_reg}
use Rattle.flat_parts.specs.vlog_scope.declared.extent.Extent.{Extent}
use Rattle.flat_parts.specs.vlog_scope.declared.extent.Extent.TheVariants.{NoRange}
use Rattle.flat_parts.specs.vlog_scope.Extents.{port_extent}
use Rattle.flat_parts.specs.vlog_scope.Scope.{scope_with, scope_of, readable_at, after_item}
use Rattle.net_design.specs.declared.values.Values.{Values}
use Rattle.net_design.specs.Updates.{apply}
use Rattle.flat_parts.specs.vlog_driver.Names.{Full, State, numbers_at}
use Rattle.flat_parts.specs.vlog_driver.Placed.{placed, placed_items, names_at}
use Rattle.flat_parts.specs.vlog_driver.Instances.{IsChild, IsAt}
use Rattle.flat_parts.specs.vlog_driver.Items.{ItemHolds, HoldsAt}
use Rattle.flat_parts.specs.vlog_driver.Settled.{IsSettled}
use Rattle.flat_parts.specs.vlog_driver.Next.{IsNext, clocked_updates}
use Rattle.shim_step.specs.Plain.{net_named, extent, port_nets, item_nets, nets_of, IsPlain, IsPlainItem, IsClockedItem}
use Rattle.shim_step.specs.Nets.{IsNet, NetsStand, RegsAreHeld}
use Rattle.shim_step.proofs.Elements.{Has, Found, found, at_member, has_left, has_right, has_contains, contains_has, place_some, Apart, apart_from}
use Rattle.shim_step.proofs.Scopes.{bare, scope_is}
use Rattle.shim_step.proofs.Declared.{nets_apart, reg_held}

-- ---- a port of a module, and a net of an item, are nets
pub in_ports : (before : Extent) (ps : List (PortOf ℕ)) (p : PortOf ℕ) (h : PortHeadOf ℕ) → Has ps p → p.head ≡ Some h
    → Has (port_nets before ps) (net_named p.id.name (extent h.range))
in_ports before [] p h there headed = absurd there
in_ports before (q ∷ ps) p h (inl e) headed =
    inl (ap (λ (z : PortOf ℕ). net_named z.id.name (port_extent (params_alone []) before z.head)) e
    ∙ ap (λ o. net_named p.id.name (port_extent (params_alone []) before o)) headed)
in_ports before (q ∷ ps) p h (inr more) headed = inr (in_ports (port_extent (params_alone []) before q.head) ps p h more headed)

pub in_items : (is : List (ItemOf ℕ)) (i : ItemOf ℕ) (z : Named ScopeNet) → Has is i → Has (item_nets i) z → Has (flat_map item_nets is) z
in_items [] i z there h = absurd there
in_items (j ∷ is) i z (inl e) h = has_left (item_nets j) (flat_map item_nets is) z (subst (λ k. Has (item_nets k) z) (sym e) h)
in_items (j ∷ is) i z (inr more) h = has_right (item_nets j) (flat_map item_nets is) z (in_items is i z more h)

pub port_net : (m : ModuleOf ℕ) (p : PortOf ℕ) (h : PortHeadOf ℕ) → Has m.ports p → p.head ≡ Some h
    → Has (nets_of m) (net_named p.id.name (extent h.range))
port_net m p h there headed =
    has_left (port_nets NoRange m.ports) (flat_map item_nets m.items) (net_named p.id.name (extent h.range))
    (in_ports NoRange m.ports p h there headed)

pub item_net : (m : ModuleOf ℕ) (i : ItemOf ℕ) (z : Named ScopeNet) → Has m.items i → Has (item_nets i) z → Has (nets_of m) z
item_net m i z there h = has_right (port_nets NoRange m.ports) (flat_map item_nets m.items) z (in_items m.items i z there h)

-- ---- items at their places
next_same : (i : ItemOf ℕ) → IsPlainItem i → after_item [] 0 i ≡ 0
next_same (WiresItem range ids) h = refl
next_same (DrivenWiresItem range ws) h = refl
next_same (RegsItem range gs) h = refl
next_same (LocalparamsItem range vs) h = absurd h
next_same (AssignItem assigns) h = refl
next_same (AlwaysItem a) h = refl
next_same (InstanceItem i) h = refl

pub has_placed : (is : List (ItemOf ℕ)) (i : ItemOf ℕ) → AllByRecursion IsPlainItem is → Has is i
    → Has (placed [] 0 is) (record { declared = 0; item = i })
has_placed [] i plain h = absurd h
has_placed (j ∷ is) i plain (inl e) = inl (ap (λ k. record { declared = 0; item = k }) e)
has_placed (j ∷ is) i plain (inr h) =
    inr (subst (λ k. Has (placed [] k is) (record { declared = 0; item = i })) (sym (next_same j plain.0)) (has_placed is i plain.1 h))

-- ---- numbers by place
module _ (nets : Full → ℕ) (path : Full) (ns : List (Named ScopeNet)) where
  pub number_at : (k : ℕ) (z : Named ScopeNet) → slice_get ns k ≡ Some z → k < length ns
      → get_or (map (λ (n : Named ScopeNet). nets (path ++ n.name ∷ [])) ns) k 0 ≡ nets (path ++ z.name ∷ [])
  number_at k z e less =
      get_or-map (λ (n : Named ScopeNet). nets (path ++ n.name ∷ [])) ns k z 0 less
      ∙ ap (λ (n : Named ScopeNet). nets (path ++ n.name ∷ [])) (get_or_from_slice_get ns k z z e)

-- the low bits of a number
low_bit : (n k i : ℕ) → i < k → bit_at (n % 2 ^ k) i ≡ bit_at n i
low_bit n k i l = sym (bit_at_cat_low (n / 2 ^ k) k (n % 2 ^ k) i l) ∙ ap (λ m. bit_at m i) (shr_split n k)

low_below : (n w : ℕ) → n % 2 ^ w < 2 ^ w
low_below n w = mod_below n (2 ^ w) (pow_pos w)

-- ---- a plain module
pub plain_nets_differ : (m : ModuleOf ℕ) → IsPlain m → Apart (nets_of m)
plain_nets_differ m plain = nets_apart m plain.bare plain.items (apart_from (declared m) plain.differ)

pub plain_scope : (m : ModuleOf ℕ) → IsPlain m → scope_with [] m ≡ bare (nets_of m)
plain_scope m plain = scope_is m plain.bare plain.items (plain_nets_differ m plain)

-- a module of which an instance stands in it
pub plain_child : (file : List (ModuleOf ℕ)) (m : ModuleOf ℕ) → IsPlain m → (i : InstanceOf ℕ) (c : ModuleOf ℕ) → Has m.items (InstanceItem i)
    → Contains file c → c.name ≡ i.module_id.name → i.parameters ≡ [] → IsChild file m (scope_with [] m) i c (scope_with [] c)
plain_child file m plain i c there in_file named none = record {
  declared = 0;
  stands = subst (λ (t : Scope). Contains (placed_items m t) (record { declared = 0; item = InstanceItem i })) (sym (plain_scope m plain))
      (has_contains (placed [] 0 m.items) (record { declared = 0; item = InstanceItem i })
      (has_placed m.items (InstanceItem i) plain.items there));
  in_file = in_file;
  named = named;
  scope = sym (ap (λ (ps : List (ConnOf ℕ)). scope_of (readable_at (scope_with [] m) 0) ps c) none);
}

-- ---- a plain module at a path
module _ (file : List (ModuleOf ℕ)) (top : ModuleOf ℕ) (s : State) (pins : List ℕ) (v : Full → ℕ) (settled : IsSettled file top s pins v)
    (path : Full) (m : ModuleOf ℕ) (plain : IsPlain m) (at : IsAt file top path m (scope_with [] m)) where
  pub nets_differ : Apart (nets_of m)
  nets_differ = plain_nets_differ m plain

  pub scope : scope_with [] m ≡ bare (nets_of m)
  scope = plain_scope m plain

  abbrev pub R : Readable
  R = names_at (bare (nets_of m)) 0

  abbrev pub V : Values
  V = numbers_at v s.words path (bare (nets_of m))

  fits : AllByRecursion (λ (z : Named ScopeNet). v (path ++ z.name ∷ []) < 2 ^ z.value.width) (nets_of m)
  fits =
      subst (λ (t : Scope). AllByRecursion (λ (z : Named ScopeNet). v (path ++ z.name ∷ []) < 2 ^ z.value.width) t.nets) scope
      (settled.fits path m (scope_with [] m) at)

  pub below : (z : Named ScopeNet) → Has (nets_of m) z → v (path ++ z.name ∷ []) < 2 ^ z.value.width
  below z h = at_member (λ (y : Named ScopeNet). v (path ++ y.name ∷ []) < 2 ^ y.value.width) (nets_of m) z fits h

  pub found_net : (z : Named ScopeNet) → Has (nets_of m) z → Found (nets_of m) z
  found_net z h = found (nets_of m) z nets_differ h

  pub net_is : (z : Named ScopeNet) → Has (nets_of m) z → z.value.width ≤ 128 → IsNet R V z.name z.value.width (v (path ++ z.name ∷ []))
  net_is z h few =
      let f : Found (nets_of m) z = found_net z h in
      let less = f.within in
      record {
        no_param = refl;
        width = f.value;
        place = f.place;
        placed = place_some (nets_of m) z f;
        there = (let l = length-map (nets_of m) (λ (n : Named ScopeNet). v (path ++ n.name ∷ [])) in omega (arith, l, less));
        number = number_at v path (nets_of m) f.place z f.there f.within;
        fits = below z h;
        lawful = few;
      }

  items : AllByRecursion (ItemHolds file v s.words path (bare (nets_of m))) (placed [] 0 m.items)
  items =
      subst (λ (t : Scope). AllByRecursion (ItemHolds file v s.words path t) (placed_items m t)) scope
      (settled.items path m (scope_with [] m) at)

  pub holds : (i : ItemOf ℕ) → Has m.items i → HoldsAt file v s.words path (bare (nets_of m)) 0 i
  holds i there =
      at_member (ItemHolds file v s.words path (bare (nets_of m))) (placed [] 0 m.items) (record { declared = 0; item = i }) items
      (has_placed m.items i plain.items there)

  -- a register's number is the state's
  pub held : AllByRecursion IsClockedItem m.items → (z : Named ScopeNet) → Has (nets_of m) z → has_reg m z.name ≡ true
      → v (path ++ z.name ∷ []) ≡ s.nets (path ++ z.name ∷ []) % 2 ^ z.value.width
  held clocked z h reg =
      let f : Found (nets_of m) z = found_net z h in
      same_from_bits_below z.value.width (v (path ++ z.name ∷ [])) (s.nets (path ++ z.name ∷ []) % 2 ^ z.value.width) (below z h)
      (low_below (s.nets (path ++ z.name ∷ [])) z.value.width)
      (λ k less.
      settled.held path m (scope_with [] m) f.place k z at
      (subst (λ (t : Scope). slice_get t.nets f.place ≡ Some z) (sym scope) f.there) less
      (reg_held m (scope_with [] m) z.name f.place k clocked reg)
      ∙ sym (low_bit (s.nets (path ++ z.name ∷ [])) z.value.width k less))

  -- the next numbers of its nets
  pub next_is : (after : State) → IsNext file top s v after
      → numbers_at after.nets after.words path (bare (nets_of m))
      ≡ apply (clocked_updates m (bare (nets_of m)) V) (numbers_at s.nets s.words path (bare (nets_of m)))
  next_is after goes =
      subst (λ (t : Scope). numbers_at after.nets after.words path t
      ≡ apply (clocked_updates m t (numbers_at v s.words path t)) (numbers_at s.nets s.words path t)) scope
      (goes.instances path m (scope_with [] m) at)

pub nets_stand : NetsStand
nets_stand file top s pins v settled path m plain at n there few =
    subst (λ (t : Scope). IsNet (names_at t 0) (numbers_at v s.words path t) n.name n.value.width (v (path ++ n.name ∷ [])))
    (sym (scope file top s pins v settled path m plain at))
    (net_is file top s pins v settled path m plain at n (contains_has (nets_of m) n there) few)

pub regs_are_held : RegsAreHeld
regs_are_held file top s pins v settled path m plain clocked at n there reg =
    held file top s pins v settled path m plain at clocked n (contains_has (nets_of m) n there) reg
