-- The ports of any module whose declared names differ are nets of its scope, and no parameters.
use Rattle.std.proofs.Common.{◌≡◌, ◌≢◌, ℕ, zero, suc, ◌+◌, ◌<◌, ◌≤◌, ◌^◌, Bool, true, false, if◌then◌else◌, List, [], ◌∷◌, ◌++◌, map, length}
use Rattle.std.proofs.Common.{Option, None, Some, is_some, refl, sym, ap, ◌∙◌, subst, arith, slice_get}
use Rattle.std.specs.List.{flat_map, AllByRecursion, position_or_len}
use Rattle.std.specs.Str.{bytes_eq}
use Rattle.std.proofs.lemmas.List.{length-map}
use Rattle.flat_parts.proofs.vidi_bits_lemmas.Lists.{bytes_eq-self}
use Rattle.vlog_tree.specs.Tree.{NamedValueOf, RegTailOf, InitTail, MemoryTail, Reg1Of, PortOf, ItemOf, WiresItem, ParameterOf}
use Rattle.vlog_tree.specs.Tree.{DrivenWiresItem, RegsItem, LocalparamsItem, AssignItem, AlwaysItem, InstanceItem, ModuleOf}
use Rattle.flat_parts.specs.vlog_size.declared.scope.Param.{Param}
use Rattle.flat_parts.specs.vlog_size.declared.scope.ScopeNet.{ScopeNet}
use Rattle.flat_parts.specs.vlog_size.declared.scope.Scope.{Scope}
use Rattle.flat_parts.specs.vlog_size.Table.{Named, value_of, place_of, added}
use Rattle.flat_parts.specs.vlog_size.Size.{Sizes}
use Rattle.flat_parts.specs.vlog_size.Names.{params_alone}
use Rattle.flat_parts.specs.vlog_names.declared.declaration.Declaration.{Declaration}
use Rattle.flat_parts.specs.vlog_names.declared.declaration.Declaration.TheVariants as d
use Rattle.flat_parts.specs.vlog_names.Entries.{Names, no_port, port_entries, parameter_entry, item_entries, header_entries, declared, value_entry}
use Rattle.flat_parts.specs.vlog_scope.declared.extent.Extent.{Extent}
use Rattle.flat_parts.specs.vlog_scope.declared.extent.Extent.TheVariants.{NoRange}
use Rattle.flat_parts.specs.vlog_scope.Extents.{extent_of, port_extent, parameter_extent, constant_sizes}
use Rattle.flat_parts.specs.vlog_scope.Params.{with_param, given_or, header_params, local_params, item_params, items_params}
use Rattle.flat_parts.specs.vlog_scope.Scope.{with_ports, with_port, with_item, with_items, with_regs, with_reg, scope_with, declared_in}
use Rattle.flat_parts.specs.vlog_scope.Scope.{params_scope}
use Rattle.flat_parts.specs.vlog_driver.Names.{Name, Full, numbers_at}
use Rattle.flat_parts.specs.vlog_driver.Placed.{names_at}
use Rattle.flat_parts.specs.vlog_driver.Next.{net_width}
use Rattle.shim_step.specs.Nets.{IsNet}
use Rattle.shim_step.proofs.Elements.{Has, Found, found, at_member, other_name, all_members, has_map, has_flat, has_left, has_right, in_slice}
use Rattle.shim_step.proofs.Elements.{place_some, Apart, apart_front, apart_back, apart_sides}
use Rattle.shim_step.proofs.Standing.{number_at}

-- ---- a name that no parameter has
module _ (name : List ℕ) where
  abbrev pub Unnamed : {V : Type 0} → List (Named V) → Type 0
  Unnamed {V} xs = AllByRecursion (λ (x : Named V). x.name ≢ name) xs

  push_unnamed : {V : Type 0} (xs : List (Named V)) (x : Named V) → Unnamed xs → x.name ≢ name → Unnamed (xs ++ x ∷ [])
  push_unnamed [] x h other = (other, tt)
  push_unnamed (y ∷ xs) x h other = (h.0, push_unnamed xs x h.1 other)

  if_unnamed : {V : Type 0} (b : Bool) (xs : List (Named V)) (x : Named V) → Unnamed xs → x.name ≢ name
      → Unnamed (if b then xs else xs ++ x ∷ [])
  if_unnamed true xs x h other = h
  if_unnamed false xs x h other = push_unnamed xs x h other

  added_unnamed : {V : Type 0} (xs : List (Named V)) (n : List ℕ) (v : V) → Unnamed xs → n ≢ name → Unnamed (added xs n v)
  added_unnamed xs n v h other = if_unnamed (is_some (value_of xs n)) xs (record { name = n; value = v }) h other

  header_unnamed : (given : List (Named Sizes)) (x : Extent) (xs : List (Named Param)) (ps : List (ParameterOf ℕ))
      → AllByRecursion (λ (p : ParameterOf ℕ). p.id.name ≢ name) ps → Unnamed xs → Unnamed (header_params given x xs ps)
  header_unnamed given x xs [] others h = h
  header_unnamed given x xs (p ∷ ps) others h =
      header_unnamed given (parameter_extent (params_alone xs) x p.head)
      (with_param (parameter_extent (params_alone xs) x p.head) xs p.id.name
      (given_or (value_of given p.id.name) (constant_sizes (params_alone xs) p.value))) ps others.1
      (added_unnamed xs p.id.name _ h others.0)

  locals_unnamed : (x : Extent) (xs : List (Named Param)) (vs : List (NamedValueOf ℕ))
      → AllByRecursion (λ (v : NamedValueOf ℕ). v.id.name ≢ name) vs → Unnamed xs → Unnamed (local_params x xs vs)
  locals_unnamed x xs [] others h = h
  locals_unnamed x xs (v ∷ vs) others h =
      locals_unnamed x (with_param x xs v.id.name (constant_sizes (params_alone xs) v.value)) vs others.1
      (added_unnamed xs v.id.name _ h others.0)

  abbrev OtherItem : ItemOf ℕ → Type 0
  OtherItem i = AllByRecursion (λ (x : Named Declaration). x.name ≢ name) (item_entries i)

  from_values : (vs : List (NamedValueOf ℕ)) → AllByRecursion (λ (x : Named Declaration). x.name ≢ name) (map (value_entry d.Localparam) vs)
      → AllByRecursion (λ (v : NamedValueOf ℕ). v.id.name ≢ name) vs
  from_values [] h = tt
  from_values (v ∷ vs) h = (h.0, from_values vs h.1)

  item_unnamed : (xs : List (Named Param)) (i : ItemOf ℕ) → OtherItem i → Unnamed xs → Unnamed (item_params xs i)
  item_unnamed xs (WiresItem range ids) others h = h
  item_unnamed xs (DrivenWiresItem range ws) others h = h
  item_unnamed xs (RegsItem range gs) others h = h
  item_unnamed xs (LocalparamsItem range vs) others h =
      locals_unnamed (extent_of (params_alone xs) range) xs vs (from_values vs others) h
  item_unnamed xs (AssignItem assigns) others h = h
  item_unnamed xs (AlwaysItem a) others h = h
  item_unnamed xs (InstanceItem i) others h = h

  items_unnamed : (xs : List (Named Param)) (is : List (ItemOf ℕ)) → AllByRecursion OtherItem is → Unnamed xs → Unnamed (items_params xs is)
  items_unnamed xs [] others h = h
  items_unnamed xs (i ∷ is) others h = items_unnamed (item_params xs i) is others.1 (item_unnamed xs i others.0 h)

-- ---- the parameters of a scope are those that are made
ports_keep : (x : Extent) (s : Scope) (ps : List (PortOf ℕ)) → (with_ports x s ps).params ≡ s.params
ports_keep x s [] = refl
ports_keep x s (p ∷ ps) = ports_keep (port_extent (declared_in s) x p.head) (with_port (port_extent (declared_in s) x p.head) s p.id.name) ps

reg_keeps : (x : Extent) (s : Scope) (n : List ℕ) (t : Option (RegTailOf ℕ)) → (with_reg x s n t).params ≡ s.params
reg_keeps x s n None = refl
reg_keeps x s n (Some (InitTail e)) = refl
reg_keeps x s n (Some (MemoryTail r)) = refl

regs_keep : (x : Extent) (s : Scope) (gs : List (Reg1Of ℕ)) → (with_regs x s gs).params ≡ s.params
regs_keep x s [] = refl
regs_keep x s (g ∷ gs) = regs_keep x (with_reg x s g.id.name g.tail) gs ∙ reg_keeps x s g.id.name g.tail

item_keeps : (s : Scope) (i : ItemOf ℕ) → (with_item s i).params ≡ s.params
item_keeps s (WiresItem range ids) = refl
item_keeps s (DrivenWiresItem range ws) = refl
item_keeps s (RegsItem range gs) = regs_keep (extent_of (declared_in s) range) s gs
item_keeps s (LocalparamsItem range vs) = refl
item_keeps s (AssignItem assigns) = refl
item_keeps s (AlwaysItem a) = refl
item_keeps s (InstanceItem i) = refl

items_keep : (s : Scope) (is : List (ItemOf ℕ)) → (with_items s is).params ≡ s.params
items_keep s [] = refl
items_keep s (i ∷ is) = items_keep (with_item s i) is ∙ item_keeps s i

abbrev made : List (Named Sizes) → ModuleOf ℕ → List (Named Param)
made given m = items_params (header_params given NoRange [] m.parameters) m.items

params_are : (given : List (Named Sizes)) (m : ModuleOf ℕ) → (scope_with given m).params ≡ made given m
params_are given m =
    let start : Scope = params_scope (length (header_params given NoRange [] m.parameters)) (made given m) in
    items_keep (with_ports NoRange start m.ports) m.items ∙ ports_keep NoRange start m.ports

-- ---- a port is no parameter
unnamed_none : {V : Type 0} (name : List ℕ) (xs : List (Named V)) → Unnamed name xs → value_of xs name ≡ None
unnamed_none name [] h = refl
unnamed_none name (x ∷ xs) h =
    let e : bytes_eq name x.name ≡ false = other_name name x.name (λ e. h.0 (sym e)) in
    rw e (unnamed_none name xs h.1)

pub port_no_param : (given : List (Named Sizes)) (m : ModuleOf ℕ) (p : Named Declaration) → Apart (declared m)
    → Has (port_entries no_port m.ports) p → value_of (scope_with given m).params p.name ≡ None
unfolding declared
port_no_param given m p apart there =
    let parameters : Names = map parameter_entry m.parameters in
    let ports : Names = port_entries no_port m.ports in
    let items : Names = flat_map item_entries m.items in
    let front : Apart (parameters ++ ports) = apart_front (parameters ++ ports) items apart in
    let params : AllByRecursion (λ (q : ParameterOf ℕ). q.id.name ≢ p.name) m.parameters =
    all_members (λ (q : ParameterOf ℕ). q.id.name ≢ p.name) m.parameters
    (λ q h. apart_sides parameters ports (parameter_entry q) p front (has_map parameter_entry m.parameters q h) there) in
    let others : AllByRecursion (OtherItem p.name) m.items =
    all_members (OtherItem p.name) m.items
    (λ i h. all_members (λ (x : Named Declaration). x.name ≢ p.name) (item_entries i)
    (λ x in_item e. apart_sides (parameters ++ ports) items p x apart (has_right parameters ports p there)
    (has_flat item_entries m.items i x h in_item) (sym e))) in
    ap (λ xs. value_of xs p.name) (params_are given m)
    ∙ unnamed_none p.name (made given m)
    (items_unnamed p.name (header_params given NoRange [] m.parameters) m.items others
    (header_unnamed p.name given NoRange [] m.parameters params tt))

-- ---- a name of the first names of a list is found
abbrev names : {V : Type 0} → List (Named V) → List Name
names {V} xs = map (λ (x : Named V). x.name) xs

pub record Stands {V : Type 0} (ns : List (Named V)) (name : Name) : Type 0 where
  pub z : Named V
  pub named : z.name ≡ name
  pub found : Found ns z

stands : {V W : Type 0} (es : List (Named W)) (ns : List (Named V)) (rest : List Name) → names ns ≡ names es ++ rest → Apart es
    → (k : ℕ) (e : Named W) → slice_get es k ≡ Some e → Stands ns e.name
stands [] ns rest is apart k e at = absurd (cc)
stands (x ∷ es) [] rest is apart k e at = absurd (cc)
stands (x ∷ es) (n ∷ ns) rest is apart zero e at =
    let here : x ≡ e = cc in
    let same : n.name ≡ x.name = cc in
    let eq : bytes_eq n.name n.name ≡ true = bytes_eq-self n.name in
    record {
      z = n;
      named = same ∙ ap (λ (y : Named _). y.name) here;
      found = record { value = rw eq refl; place = 0; first = rw eq refl; there = refl; within = omega arith };
    }
stands {V} {W} (x ∷ es) (n ∷ ns) rest is apart (suc k) e at =
    let same : n.name ≡ x.name = cc in
    let later : names ns ≡ names es ++ rest = cc in
    let more : Stands ns e.name = stands es ns rest later apart.1 k e at in
    let f = more.found in
    let other : x.name ≢ e.name = at_member (λ (y : Named W). x.name ≢ y.name) es e apart.0 (in_slice es k e at) in
    let never : bytes_eq more.z.name n.name ≡ false =
    other_name more.z.name n.name (λ q. other (sym same ∙ sym q ∙ more.named)) in
    let less = f.within in
    let first = f.first in
    let next : 1 + position_or_len (λ (y : Named V). bytes_eq more.z.name y.name) ns ≡ suc f.place = omega (arith, first) in
    record {
      z = more.z;
      named = more.named;
      found = record {
        value = rw never f.value;
        place = suc f.place;
        first = rw never next;
        there = f.there;
        within = omega (arith, less);
      };
    }

module _ (m : ModuleOf ℕ) (own : Apart (declared m)) where
  ports_apart : Apart (port_entries no_port m.ports)
  unfolding declared
  ports_apart = apart_back (map parameter_entry m.parameters) (port_entries no_port m.ports)
      (apart_front (header_entries m) (flat_map item_entries m.items) own)

  pub entry_declared : (e : Named Declaration) → Has (port_entries no_port m.ports) e → value_of (declared m) e.name ≡ Some e.value
  unfolding declared
  entry_declared e there =
      (found (declared m) e own
      (has_left (header_entries m) (flat_map item_entries m.items) e
      (has_right (map parameter_entry m.parameters) (port_entries no_port m.ports) e there))).value

  module _ (v : Full → ℕ) (words : Full → ℕ → ℕ) (path : Full)
      (fits : AllByRecursion (λ (n : Named ScopeNet). v (path ++ n.name ∷ []) < 2 ^ n.value.width) (scope_with [] m).nets) where
    pub port_net : (rest : List Name) → names (scope_with [] m).nets ≡ names (port_entries no_port m.ports) ++ rest → (k : ℕ) (e : Named Declaration) → slice_get (port_entries no_port m.ports) k ≡ Some e
        → net_width (value_of (scope_with [] m).nets e.name) ≤ 128
        → IsNet (names_at (scope_with [] m) (scope_with [] m).declared) (numbers_at v words path (scope_with [] m)) e.name
        (net_width (value_of (scope_with [] m).nets e.name)) (v (path ++ e.name ∷ []))
    port_net rest first k e at few =
        let ns : List (Named ScopeNet) = (scope_with [] m).nets in
        let s : Stands ns e.name = stands (port_entries no_port m.ports) ns rest first ports_apart k e at in
        let f = s.found in
        let z = s.z in
        let value : value_of ns e.name ≡ Some z.value = subst (λ x. value_of ns x ≡ Some z.value) s.named f.value in
        let width : net_width (value_of ns e.name) ≡ z.value.width = ap net_width value in
        record {
          no_param = port_no_param [] m e own (in_slice (port_entries no_port m.ports) k e at);
          width = value ∙ ap (λ w. Some (record { width = w })) (sym width);
          place = f.place;
          placed = subst (λ x. place_of ns x ≡ Some f.place) s.named (place_some ns z f);
          there = (let l = length-map ns (λ (n : Named ScopeNet). v (path ++ n.name ∷ [])) in let less = f.within in omega (arith, l, less));
          number = number_at v path ns f.place z f.there f.within ∙ ap (λ x. v (path ++ x ∷ [])) s.named;
          fits = (let has : Has ns z = in_slice ns f.place z f.there in
              let fit : v (path ++ z.name ∷ []) < 2 ^ z.value.width = at_member (λ (n : Named ScopeNet). v (path ++ n.name ∷ []) < 2 ^ n.value.width) ns z fits has in
              subst (λ w. v (path ++ e.name ∷ []) < 2 ^ w) (sym width) (subst (λ x. v (path ++ x ∷ []) < 2 ^ z.value.width) s.named fit));
          lawful = few;
        }
