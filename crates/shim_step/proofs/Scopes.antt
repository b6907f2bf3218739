-- The scope of an instance of a module without parameters and memories has the nets of the module's text.
use Rattle.std.proofs.Common.{◌≡◌, ◌≢◌, ℕ, false, List, [], ◌∷◌, ◌++◌, map}
use Rattle.std.proofs.Common.{Option, None, Some, is_some, refl, sym, ap, ◌∙◌, subst, append_assoc, append-nil, inl, inr}
use Rattle.std.specs.List.{flat_map, AllByRecursion}
use Rattle.std.specs.Str.{bytes_eq}
use Rattle.vlog_tree.specs.Tree.{IdentOf, NamedValueOf, RegTailOf, InitTail, MemoryTail, Reg1Of, PortOf, ItemOf, WiresItem, ParameterOf}
use Rattle.vlog_tree.specs.Tree.{DrivenWiresItem, RegsItem, LocalparamsItem, AssignItem, AlwaysItem, InstanceItem, ModuleOf}
use Rattle.flat_parts.specs.vlog_size.declared.scope.Param.{Param}
use Rattle.flat_parts.specs.vlog_size.declared.scope.ScopeNet.{ScopeNet}
use Rattle.flat_parts.specs.vlog_size.declared.scope.ScopeMemory.{ScopeMemory}
use Rattle.flat_parts.specs.vlog_size.declared.scope.Scope.{Scope}
use Rattle.flat_parts.specs.vlog_size.Table.{Named, value_of, added}
use Rattle.flat_parts.specs.vlog_scope.declared.extent.Extent.{Extent}
use Rattle.flat_parts.specs.vlog_scope.declared.extent.Extent.TheVariants.{NoRange}
use Rattle.flat_parts.specs.vlog_scope.Extents.{port_extent}
use Rattle.flat_parts.specs.vlog_size.Names.{params_alone}
use Rattle.flat_parts.specs.vlog_scope.Params.{items_params, header_params}
use Rattle.flat_parts.specs.vlog_scope.Scope.{with_ports, wire_nets, driven_nets, with_regs, with_reg, with_item, with_items, scope_with, with_net, scope_after, with_places}
use Rattle.shim_step.specs.Plain.{net_named, extent, port_nets, item_nets, nets_of, IsPlainTail, IsPlainReg, IsPlainItem}
use Rattle.shim_step.proofs.Elements.{Has, at_member, other_name, Apart}

-- ---- entries added one after the other
abbrev with_all : {V : Type 0} → List (Named V) → List (Named V) → List (Named V)
with_all xs [] = xs
with_all xs (e ∷ es) = with_all (added xs e.name e.value) es

module _ {V : Type 0} where
  all_append : (xs es fs : List (Named V)) → with_all xs (es ++ fs) ≡ with_all (with_all xs es) fs
  all_append xs [] fs = refl
  all_append xs (e ∷ es) fs = all_append (added xs e.name e.value) es fs

module _ {V : Type 0} where
  -- no entry has this name
  abbrev Missing : List (Named V) → List ℕ → Type 0
  Missing xs name = AllByRecursion (λ (x : Named V). x.name ≢ name) xs

  not_there : (xs : List (Named V)) (name : List ℕ) → Missing xs name → is_some (value_of xs name) ≡ false
  not_there [] name none = refl
  not_there (x ∷ xs) name none =
      let other : bytes_eq name x.name ≡ false = other_name name x.name (λ e. none.0 (sym e)) in
      rw other (not_there xs name none.1)

  added_new : (xs : List (Named V)) (x : Named V) → Missing xs x.name → added xs x.name x.value ≡ xs ++ x ∷ []
  added_new xs x none = rw (not_there xs x.name none) refl

  missing_in : (xs ys : List (Named V)) (x : Named V) → Apart (xs ++ x ∷ ys) → Missing xs x.name
  missing_in [] ys x apart = tt
  missing_in (y ∷ xs) ys x apart = (
    at_member (λ (z : Named V). y.name ≢ z.name) (xs ++ x ∷ ys) x apart.0 (in_middle xs),
    missing_in xs ys x apart.1,
  ) where
    in_middle : (zs : List (Named V)) → Has (zs ++ x ∷ ys) x
    in_middle [] = inl refl
    in_middle (z ∷ zs) = inr (in_middle zs)

  -- entries of different names are all added
  pub all_added : (xs es : List (Named V)) → Apart (xs ++ es) → with_all xs es ≡ xs ++ es
  all_added xs [] apart = sym (append-nil xs)
  all_added xs (e ∷ es) apart =
      ap (λ ys. with_all ys es) (added_new xs e (missing_in xs es e apart))
      ∙ all_added (xs ++ e ∷ []) es (subst (λ ys. Apart ys) (sym (append_assoc xs (e ∷ []) es)) apart)
      ∙ append_assoc xs (e ∷ []) es

-- ---- the nets of a scope
abbrev holding : List (Named ScopeNet) → List (Named ScopeMemory) → Scope
holding ns ms = record { params = []; declared = 0; nets = ns; memories = ms }

ports_are : (before : Extent) (ns : List (Named ScopeNet)) (ps : List (PortOf ℕ))
    → with_ports before (holding ns []) ps ≡ holding (with_all ns (port_nets before ps)) []
ports_are before ns [] = refl
ports_are before ns (p ∷ ps) =
    ports_are (port_extent (params_alone []) before p.head) (with_net (port_extent (params_alone []) before p.head) ns p.id.name) ps

wires_are : (x : Extent) (ns : List (Named ScopeNet)) (ids : List (IdentOf ℕ))
    → wire_nets x ns ids ≡ with_all ns (map (λ (id : IdentOf ℕ). net_named id.name x) ids)
wires_are x ns [] = refl
wires_are x ns (id ∷ ids) = wires_are x (with_net x ns id.name) ids

driven_are : (x : Extent) (ns : List (Named ScopeNet)) (ws : List (NamedValueOf ℕ))
    → driven_nets x ns ws ≡ with_all ns (map (λ (w : NamedValueOf ℕ). net_named w.id.name x) ws)
driven_are x ns [] = refl
driven_are x ns (w ∷ ws) = driven_are x (with_net x ns w.id.name) ws

reg_is : (x : Extent) (ns : List (Named ScopeNet)) (name : List ℕ) (tail : Option (RegTailOf ℕ)) → IsPlainTail tail
    → with_reg x (holding ns []) name tail ≡ holding (with_net x ns name) []
reg_is x ns name None h = refl
reg_is x ns name (Some (InitTail e)) h = refl
reg_is x ns name (Some (MemoryTail r)) h = absurd h

regs_are : (x : Extent) (ns : List (Named ScopeNet)) (gs : List (Reg1Of ℕ)) → AllByRecursion IsPlainReg gs
    → with_regs x (holding ns []) gs ≡ holding (with_all ns (map (λ (g : Reg1Of ℕ). net_named g.id.name x) gs)) []
regs_are x ns [] h = refl
regs_are x ns (g ∷ gs) h =
    ap (λ (s : Scope). with_regs x s gs) (reg_is x ns g.id.name g.tail h.0) ∙ regs_are x (with_net x ns g.id.name) gs h.1

item_is : (ns : List (Named ScopeNet)) (i : ItemOf ℕ) → IsPlainItem i → with_item (holding ns []) i ≡ holding (with_all ns (item_nets i)) []
item_is ns (WiresItem range ids) h = ap (λ ms. holding ms []) (wires_are (extent range) ns ids)
item_is ns (DrivenWiresItem range ws) h = ap (λ ms. holding ms []) (driven_are (extent range) ns ws)
item_is ns (RegsItem range gs) h = regs_are (extent range) ns gs h
item_is ns (LocalparamsItem range vs) h = absurd h
item_is ns (AssignItem assigns) h = refl
item_is ns (AlwaysItem a) h = refl
item_is ns (InstanceItem i) h = refl

items_are : (ns : List (Named ScopeNet)) (is : List (ItemOf ℕ)) → AllByRecursion IsPlainItem is
    → with_items (holding ns []) is ≡ holding (with_all ns (flat_map item_nets is)) []
items_are ns [] h = refl
items_are ns (i ∷ is) h =
    ap (λ (s : Scope). with_items s is) (item_is ns i h.0)
    ∙ items_are (with_all ns (item_nets i)) is h.1
    ∙ ap (λ ms. holding ms []) (sym (all_append ns (item_nets i) (flat_map item_nets is)))

no_item_params : (i : ItemOf ℕ) → IsPlainItem i → (is : List (ItemOf ℕ)) → items_params [] (i ∷ is) ≡ items_params [] is
no_item_params (WiresItem range ids) h is = refl
no_item_params (DrivenWiresItem range ws) h is = refl
no_item_params (RegsItem range gs) h is = refl
no_item_params (LocalparamsItem range vs) h is = absurd h
no_item_params (AssignItem assigns) h is = refl
no_item_params (AlwaysItem a) h is = refl
no_item_params (InstanceItem i) h is = refl

no_params : (is : List (ItemOf ℕ)) → AllByRecursion IsPlainItem is → items_params [] is ≡ []
no_params [] h = refl
no_params (i ∷ is) h = no_item_params i h.0 is ∙ no_params is h.1

-- no parameters, no memories and these nets
abbrev pub bare : List (Named ScopeNet) → Scope
bare ns = record { params = []; declared = 0; nets = ns; memories = [] }

-- the scope of a module without parameters and memories
pub scope_is : (m : ModuleOf ℕ) → m.parameters ≡ [] → AllByRecursion IsPlainItem m.items → Apart (nets_of m)
    → scope_with [] m ≡ bare (nets_of m)
scope_is m none plain apart =
    ap (λ (ps : List (ParameterOf ℕ)). scope_after m (header_params [] NoRange [] ps)) none
    ∙ ap (λ (ps : List (Named Param)). with_places m 0 ps) (no_params m.items plain)
    ∙ ap (λ (s : Scope). record (with_items s m.items) { declared = 0 }) (ports_are NoRange [] m.ports)
    ∙ ap (λ (s : Scope). record s { declared = 0 }) (items_are (with_all [] (port_nets NoRange m.ports)) m.items plain)
    ∙ ap (λ ns. holding ns [])
    (sym (all_append [] (port_nets NoRange m.ports) (flat_map item_nets m.items)) ∙ all_added [] (nets_of m) apart)
