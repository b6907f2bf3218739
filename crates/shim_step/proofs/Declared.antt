-- What a plain module declares: each name is found as what it was declared, and a register is held.
use Rattle.std.proofs.Common.{◌≡◌, ◌≢◌, ℕ, true, false, List, [], ◌∷◌, ◌++◌, map}
use Rattle.std.proofs.Common.{Some, refl, sym, ap, ◌∙◌, subst, inl, inr}
use Rattle.std.specs.List.{flat_map, AllByRecursion, list_any}
use Rattle.vlog_tree.specs.Tree.{IdentOf, NamedValueOf, Reg1Of, PortOf, PortHeadOf, ItemOf, WiresItem}
use Rattle.vlog_tree.specs.Tree.{DrivenWiresItem, RegsItem, LocalparamsItem, AssignItem, AlwaysItem, InstanceItem, ModuleOf, ParameterOf}
use Rattle.vlog_tree.specs.Tree.{EventOf, PosedgeEvent, ImplicitEvent, AlwaysOf}
use Rattle.flat_parts.specs.vlog_size.declared.scope.ScopeNet.{ScopeNet}
use Rattle.flat_parts.specs.vlog_size.declared.scope.Scope.{Scope}
use Rattle.flat_parts.specs.vlog_size.declared.scope.Param.{Param}
use Rattle.flat_parts.specs.vlog_size.Table.{Named, value_of}
use Rattle.flat_parts.specs.vlog_size.Names.{params_alone, Readable}
use Rattle.flat_parts.specs.vlog_names.declared.declaration.Shape.{Shape}
use Rattle.flat_parts.specs.vlog_names.declared.declaration.Declaration.{Declaration}
use Rattle.flat_parts.specs.vlog_names.declared.declaration.Declaration.TheVariants as d
use Rattle.flat_parts.specs.vlog_names.Entries.{Names, entry, shape_of, port_as, no_port, port_entries, parameter_entry, item_entries, declared}
use Rattle.flat_parts.specs.vlog_names.Entries.{ident_entry, value_entry, reg_entry}
use Rattle.flat_parts.specs.vlog_scope.declared.extent.Extent.{Extent}
use Rattle.flat_parts.specs.vlog_scope.declared.extent.Extent.TheVariants.{NoRange}
use Rattle.flat_parts.specs.vlog_scope.Extents.{port_extent}
use Rattle.flat_parts.specs.vlog_scope.Scope.{after_item}
use Rattle.flat_parts.specs.vlog_names.Ports.{has_output, has_reg, is_output_port}
use Rattle.flat_parts.specs.vlog_driver.Placed.{Placed, placed, placed_items, names_at}
use Rattle.flat_parts.specs.vlog_driver.Settled.{is_held, item_writes}
use Rattle.shim_step.specs.Plain.{net_named, extent, port_nets, item_nets, nets_of, IsPlainItem, IsPosedge, IsClockedItem}
use Rattle.shim_step.proofs.Elements.{Has, found, Apart, has_left, has_right}

-- ---- what is found
entry_in_ports : (before : Declaration) (ps : List (PortOf ℕ)) (p : PortOf ℕ) (h : PortHeadOf ℕ) → Has ps p → p.head ≡ Some h
    → Has (port_entries before ps) (entry p.id.name (d.Port h.direction (shape_of h.range)))
entry_in_ports before [] p h there headed = absurd there
entry_in_ports before (q ∷ ps) p h (inl e) headed =
    inl (ap (λ (z : PortOf ℕ). entry z.id.name (port_as before z.head)) e ∙ ap (λ o. entry p.id.name (port_as before o)) headed)
entry_in_ports before (q ∷ ps) p h (inr more) headed = inr (entry_in_ports (port_as before q.head) ps p h more headed)

entry_in_items : (is : List (ItemOf ℕ)) (i : ItemOf ℕ) (z : Named Declaration) → Has is i → Has (item_entries i) z
    → Has (flat_map item_entries is) z
entry_in_items [] i z there h = absurd there
entry_in_items (j ∷ is) i z (inl e) h =
    has_left (item_entries j) (flat_map item_entries is) z (subst (λ k. Has (item_entries k) z) (sym e) h)
entry_in_items (j ∷ is) i z (inr more) h =
    has_right (item_entries j) (flat_map item_entries is) z (entry_in_items is i z more h)

-- the text's entries of a module without parameters
abbrev entries : ModuleOf ℕ → Names
entries m = port_entries no_port m.ports ++ flat_map item_entries m.items

declared_is : (m : ModuleOf ℕ) → m.parameters ≡ [] → declared m ≡ entries m
unfolding declared
declared_is m none =
    ap (λ (ps : List (ParameterOf ℕ)). (map parameter_entry ps ++ port_entries no_port m.ports) ++ flat_map item_entries m.items) none

module _ (m : ModuleOf ℕ) (none : m.parameters ≡ []) (apart : Apart (declared m)) where
  value_is : (z : Named Declaration) → Has (entries m) z → value_of (declared m) z.name ≡ Some z.value
  value_is z h = (found (declared m) z apart (subst (λ ns. Has ns z) (sym (declared_is m none)) h)).value

  pub port_found : (p : PortOf ℕ) (h : PortHeadOf ℕ) → Has m.ports p → p.head ≡ Some h
      → has_output m p.id.name ≡ is_output_port h.direction
  port_found p h there headed =
      let e : value_of (declared m) p.id.name ≡ Some (d.Port h.direction (shape_of h.range)) =
      value_is (entry p.id.name (d.Port h.direction (shape_of h.range)))
      (has_left (port_entries no_port m.ports) (flat_map item_entries m.items) _ (entry_in_ports no_port m.ports p h there headed)) in
      rw e refl

  pub reg_found : (i : ItemOf ℕ) (name : List ℕ) (shape : Shape) → Has m.items i → Has (item_entries i) (entry name (d.Reg shape))
      → has_reg m name ≡ true
  reg_found i name shape there h =
      let e : value_of (declared m) name ≡ Some (d.Reg shape) =
      value_is (entry name (d.Reg shape))
      (has_right (port_entries no_port m.ports) (flat_map item_entries m.items) _ (entry_in_items m.items i _ there h)) in
      rw e refl

-- ---- a module without `always @*` holds all bits of its regs
event_still : (r : Readable) (a : AlwaysOf ℕ) (e : EventOf ℕ) (j k : ℕ) → IsPosedge e → a.event ≡ e → item_writes r (AlwaysItem a) j k ≡ false
event_still r a (PosedgeEvent clock) j k h is = rw is refl
event_still r a (ImplicitEvent parens) j k h is = absurd h

still : (r : Readable) (i : ItemOf ℕ) (j k : ℕ) → IsClockedItem i → item_writes r i j k ≡ false
still r (WiresItem range ids) j k h = refl
still r (DrivenWiresItem range ws) j k h = refl
still r (RegsItem range gs) j k h = refl
still r (LocalparamsItem range vs) j k h = refl
still r (AssignItem assigns) j k h = refl
still r (AlwaysItem a) j k h = event_still r a a.event j k h refl
still r (InstanceItem i) j k h = refl

module _ (s : Scope) (j k : ℕ) where
  none_writes : (params : List (Named Param)) (n : ℕ) (is : List (ItemOf ℕ))
      → AllByRecursion IsClockedItem is
      → list_any (λ (p : Placed). item_writes (names_at s p.declared) p.item j k) (placed params n is) ≡ false
  none_writes params n [] h = refl
  none_writes params n (i ∷ is) h =
      let e : item_writes (names_at s n) i j k ≡ false = still (names_at s n) i j k h.0 in
      rw e (none_writes params (after_item params n i) is h.1)

pub reg_held : (m : ModuleOf ℕ) (s : Scope) (name : List ℕ) (j k : ℕ) → AllByRecursion IsClockedItem m.items → has_reg m name ≡ true
    → is_held m s name j k ≡ true
reg_held m s name j k clocked is =
    let e : list_any (λ (p : Placed). item_writes (names_at s p.declared) p.item j k) (placed_items m s) ≡ false =
    none_writes s j k s.params s.declared m.items clocked in
    rw (is, e) refl

-- ---- nets are among what is declared, in the same order
abbrev Other : {V : Type 0} → List ℕ → List (Named V) → Type 0
Other {V} name xs = AllByRecursion (λ (x : Named V). name ≢ x.name) xs

-- what is kept of an entry: what another name is apart from, and apartness
pub record Kept {V W : Type 0} (xs : List (Named V)) (ys : List (Named W)) : Type 0 where
  pub other : (name : List ℕ) → Other name ys → Other name xs
  pub apart : Apart ys → Apart xs

kept_none : {V W : Type 0} → Kept {V = V} {W = W} [] []
kept_none = record { other = λ name h. h; apart = λ h. h }

kept_more : {V W : Type 0} (x : Named V) (y : Named W) (xs : List (Named V)) (ys : List (Named W)) → x.name ≡ y.name → Kept xs ys
    → Kept (x ∷ xs) (y ∷ ys)
kept_more x y xs ys e k = record {
  other = λ name h. ((λ same. h.0 (same ∙ e)), k.other name h.1);
  apart = λ h. (subst (λ n. Other n xs) (sym e) (k.other y.name h.0), k.apart h.1);
}

kept_skip : {V W : Type 0} (y : Named W) (xs : List (Named V)) (ys : List (Named W)) → Kept xs ys → Kept xs (y ∷ ys)
kept_skip y xs ys k = record { other = λ name h. k.other name h.1; apart = λ h. k.apart h.1 }

module _ {X V W : Type 0} (f : X → Named V) (g : X → Named W) (same : (x : X) → (f x).name ≡ (g x).name) where
  kept_map : (xs : List X) (ns : List (Named V)) (es : List (Named W)) → Kept ns es → Kept (map f xs ++ ns) (map g xs ++ es)
  kept_map [] ns es k = k
  kept_map (x ∷ xs) ns es k = kept_more (f x) (g x) (map f xs ++ ns) (map g xs ++ es) (same x) (kept_map xs ns es k)

kept_ports : (x : Extent) (w : Declaration) (ps : List (PortOf ℕ)) (ns : List (Named ScopeNet)) (es : Names) → Kept ns es
    → Kept (port_nets x ps ++ ns) (port_entries w ps ++ es)
kept_ports x w [] ns es k = k
kept_ports x w (p ∷ ps) ns es k =
    kept_more (net_named p.id.name (port_extent (params_alone []) x p.head)) (entry p.id.name (port_as w p.head))
    (port_nets (port_extent (params_alone []) x p.head) ps ++ ns) (port_entries (port_as w p.head) ps ++ es) refl
    (kept_ports (port_extent (params_alone []) x p.head) (port_as w p.head) ps ns es k)

kept_item : (i : ItemOf ℕ) (ns : List (Named ScopeNet)) (es : Names) → IsPlainItem i → Kept ns es
    → Kept (item_nets i ++ ns) (item_entries i ++ es)
kept_item (WiresItem range ids) ns es h k =
    kept_map (λ (id : IdentOf ℕ). net_named id.name (extent range)) (ident_entry (d.Wire (shape_of range))) (λ id. refl) ids ns es k
kept_item (DrivenWiresItem range ws) ns es h k =
    kept_map (λ (w : NamedValueOf ℕ). net_named w.id.name (extent range)) (value_entry (d.Wire (shape_of range))) (λ w. refl) ws ns es k
kept_item (RegsItem range gs) ns es h k =
    kept_map (λ (g : Reg1Of ℕ). net_named g.id.name (extent range)) (reg_entry (shape_of range)) (λ g. refl) gs ns es k
kept_item (LocalparamsItem range vs) ns es h k = absurd h
kept_item (AssignItem assigns) ns es h k = k
kept_item (AlwaysItem a) ns es h k = k
kept_item (InstanceItem i) ns es h k = kept_skip (entry i.id.name d.Instance) ns es k

kept_items : (is : List (ItemOf ℕ)) → AllByRecursion IsPlainItem is → Kept (flat_map item_nets is) (flat_map item_entries is)
kept_items [] h = kept_none
kept_items (i ∷ is) h = kept_item i (flat_map item_nets is) (flat_map item_entries is) h.0 (kept_items is h.1)

-- where the declared names differ, so do those of the nets
pub nets_apart : (m : ModuleOf ℕ) → m.parameters ≡ [] → AllByRecursion IsPlainItem m.items → Apart (declared m) → Apart (nets_of m)
nets_apart m none plain apart =
    (kept_ports NoRange no_port m.ports (flat_map item_nets m.items) (flat_map item_entries m.items) (kept_items m.items plain)).apart
    (subst (λ ns. Apart ns) (declared_is m none) apart)
