-- No two nets of the design have the same full name.
use Rattle.std.proofs.Common.{◌≡◌, ◌≢◌, ℕ, zero, suc, ◌<◌, Bool, true, false, List, [], ◌∷◌, ◌++◌, map, length, refl, sym, subst}
use Rattle.std.proofs.Common.{◌∙◌, arith, get_or, Option, None, Some, slice_get}
use Rattle.std.specs.Prelude.{is_some, if◌then◌else◌}
use Rattle.std.specs.List.{flat_map, AllPairs, AllByRecursion}
use Rattle.std.specs.Str.{bytes_eq}
use Rattle.std.proofs.lemmas.List.{same_from_push, map-id}
use Rattle.std.proofs.lemmas.List.Elements.{All-from_recursion, recursion_from_All}
use Rattle.std.proofs.lemmas.List.Quantifiers.{all_pairs_push}
use Rattle.std.proofs.lemmas.Slice.Eq.{bytes_eq-Decides}
use Rattle.flat_parts.specs.vlog_names.Entries.{entry}
use Rattle.flat_parts.specs.Instances.{HasOtherPath}
use Rattle.flat_parts.proofs.vidi_bits_lemmas.Each.{each_weaker, each_append}
use Rattle.vlog_tree.specs.Tree.{IdentOf, NamedValueOf, RegTailOf, InitTail, MemoryTail, Reg1Of, PortOf, InstanceOf}
use Rattle.vlog_tree.specs.Tree.{ItemOf, WiresItem, DrivenWiresItem, RegsItem, LocalparamsItem, AssignItem, AlwaysItem, InstanceItem}
use Rattle.vlog_tree.specs.Tree.{ModuleOf, FileOf}
use Rattle.flat_parts.specs.vlog_size.declared.scope.ScopeNet.{ScopeNet}
use Rattle.flat_parts.specs.vlog_size.declared.scope.Scope.{Scope}
use Rattle.flat_parts.specs.vlog_size.Table.{Named, value_of}
use Rattle.flat_parts.specs.vlog_size.Names.{Readable}
use Rattle.flat_parts.specs.vlog_size.Size.{Sizes}
use Rattle.flat_parts.specs.vlog_names.Different.{Differ}
use Rattle.flat_parts.specs.vlog_hierarchy.Outlines.{place_of}
use Rattle.flat_parts.specs.vlog_scope.declared.extent.Extent.{Extent}
use Rattle.flat_parts.specs.vlog_scope.declared.extent.Extent.TheVariants.{NoRange}
use Rattle.flat_parts.specs.vlog_scope.Extents.{extent_of, port_extent, net_width}
use Rattle.flat_parts.specs.vlog_scope.Params.{header_params, items_params, overrides_of}
use Rattle.flat_parts.specs.vlog_scope.Scope.{declared_in, readable_at, after_item, with_net, with_port, with_ports, wire_nets, driven_nets, with_reg}
use Rattle.flat_parts.specs.vlog_scope.Scope.{with_regs, with_item, with_items, params_scope, scope_with}
use Rattle.net_design.specs.Names.{net_names}
use Rattle.flat_parts.specs.vlog_elab.Instances.{ModuleInstance, child_of, child_at, item_children, children_from, children, within, top_of, top_at}
use Rattle.flat_parts.specs.vlog_elab.Instances.{instances}
use Rattle.flat_parts.specs.vlog_driver.Names.{Full}
use Rattle.flat_parts.specs.Laws.{PathsDiffer, NamesDiffer}
use Rattle.flat_layout.proofs.Numbers.{built_names}
use Rattle.flat_parts.specs.vlog_hierarchy.declared.nodes.TheConstants.{MOST_LEVELS}

-- ---- pairs

pairs_none : {X : Type 0} (R : X → X → Type 0) → AllPairs R []
pairs_none R i j d a b = absurd (omega (arith, b))

pairs_cons : {X : Type 0} (R : X → X → Type 0) (x : X) (xs : List X) → AllByRecursion (R x) xs → AllPairs R xs → AllPairs R (x ∷ xs)
pairs_cons R x xs h g zero zero d a b = absurd (omega (arith, a))
pairs_cons R x xs h g zero (suc j) d a b = All-from_recursion (R x) xs h j d (omega (arith, b))
pairs_cons R x xs h g (suc i) zero d a b = absurd (omega (arith, a))
pairs_cons R x xs h g (suc i) (suc j) d a b = g i j d (omega (arith, a)) (omega (arith, b))

first_pairs : {X : Type 0} (R : X → X → Type 0) (x : X) (xs : List X) → AllPairs R (x ∷ xs) → AllByRecursion (R x) xs
first_pairs R x xs h = recursion_from_All (R x) xs (λ k d l. h 0 (suc k) d (omega arith) (omega (arith, l)))

rest_pairs : {X : Type 0} (R : X → X → Type 0) (x : X) (xs : List X) → AllPairs R (x ∷ xs) → AllPairs R xs
rest_pairs R x xs h i j d a b = h (suc i) (suc j) d (omega (arith, a)) (omega (arith, b))

in_pieces : {X Y : Type 0} (P : X → Type 0) (Q : Y → Type 0) (f : X → List Y) → ((x : X) → P x → AllByRecursion Q (f x))
    → (xs : List X) → AllByRecursion P xs → AllByRecursion Q (flat_map f xs)
in_pieces P Q f g [] h = tt
in_pieces P Q f g (x ∷ xs) h = each_append Q (f x) (flat_map f xs) (g x h.0) (in_pieces P Q f g xs h.1)

-- ---- the names of one scope: each is added where it isn't there

abbrev Nets : Type 0
Nets = List (Named ScopeNet)

passed : (b : Bool) (x : Named ScopeNet) (rest : Option ScopeNet) → is_some (if b then Some x.value else rest) ≡ false
    → (b ≡ false) × (is_some rest ≡ false)
passed true x rest h = absurd (cc)
passed false x rest h = (refl, h)

other_name : (name other : List ℕ) → bytes_eq name other ≡ false → other ≢ name
other_name name other unlike same = let yes : bytes_eq name other ≡ true = (bytes_eq-Decides name other).1 (sym same) in absurd (cc)

not_named : (ns : Nets) (name : List ℕ) → is_some (value_of ns name) ≡ false → (k : ℕ) (d : Named ScopeNet) → k < length ns
    → (get_or ns k d).name ≢ name
not_named [] name h k d l = absurd (omega (arith, l))
not_named (x ∷ ns) name h zero d l = other_name name x.name (passed (bytes_eq name x.name) x (value_of ns name) h).0
not_named (x ∷ ns) name h (suc k) d l =
    not_named ns name (passed (bytes_eq name x.name) x (value_of ns name) h).1 k d (omega (arith, l))

differ_if : (ns : Nets) (name : List ℕ) (v : ScopeNet) (b : Bool) → is_some (value_of ns name) ≡ b → Differ ns
    → Differ (if b then ns else ns ++ entry name v ∷ [])
differ_if ns name v true e h = h
differ_if ns name v false e h =
    all_pairs_push (λ (a b : Named ScopeNet). a.name ≢ b.name) ns (entry name v) h (not_named ns name e)

with_net_differ : (x : Extent) (ns : Nets) (name : List ℕ) → Differ ns → Differ (with_net x ns name)
with_net_differ x ns name h = differ_if ns name (record { width = net_width x }) (is_some (value_of ns name)) refl h

ports_differ : (before : Extent) (s : Scope) (ps : List (PortOf ℕ)) → Differ s.nets → Differ (with_ports before s ps).nets
ports_differ before s [] h = h
ports_differ before s (p ∷ ps) h =
    ports_differ (port_extent (declared_in s) before p.head) (with_port (port_extent (declared_in s) before p.head) s p.id.name) ps
    (with_net_differ (port_extent (declared_in s) before p.head) s.nets p.id.name h)

wires_differ : (x : Extent) (ns : Nets) (ids : List (IdentOf ℕ)) → Differ ns → Differ (wire_nets x ns ids)
wires_differ x ns [] h = h
wires_differ x ns (id ∷ ids) h = wires_differ x (with_net x ns id.name) ids (with_net_differ x ns id.name h)

driven_differ : (x : Extent) (ns : Nets) (ws : List (NamedValueOf ℕ)) → Differ ns → Differ (driven_nets x ns ws)
driven_differ x ns [] h = h
driven_differ x ns (w ∷ ws) h = driven_differ x (with_net x ns w.id.name) ws (with_net_differ x ns w.id.name h)

reg_differ : (x : Extent) (s : Scope) (name : List ℕ) (tail : Option (RegTailOf ℕ)) → Differ s.nets → Differ (with_reg x s name tail).nets
reg_differ x s name None h = with_net_differ x s.nets name h
reg_differ x s name (Some (InitTail e)) h = with_net_differ x s.nets name h
reg_differ x s name (Some (MemoryTail range)) h = h

regs_differ : (x : Extent) (s : Scope) (gs : List (Reg1Of ℕ)) → Differ s.nets → Differ (with_regs x s gs).nets
regs_differ x s [] h = h
regs_differ x s (g ∷ gs) h = regs_differ x (with_reg x s g.id.name g.tail) gs (reg_differ x s g.id.name g.tail h)

item_differ : (s : Scope) (item : ItemOf ℕ) → Differ s.nets → Differ (with_item s item).nets
item_differ s (WiresItem range ids) h = wires_differ (extent_of (declared_in s) range) s.nets ids h
item_differ s (DrivenWiresItem range ws) h = driven_differ (extent_of (declared_in s) range) s.nets ws h
item_differ s (RegsItem range gs) h = regs_differ (extent_of (declared_in s) range) s gs h
item_differ s (LocalparamsItem range vs) h = h
item_differ s (AssignItem assigns) h = h
item_differ s (AlwaysItem a) h = h
item_differ s (InstanceItem i) h = h

items_differ : (s : Scope) (items : List (ItemOf ℕ)) → Differ s.nets → Differ (with_items s items).nets
items_differ s [] h = h
items_differ s (i ∷ is) h = items_differ (with_item s i) is (item_differ s i h)

nets_differ : (given : List (Named Sizes)) (m : ModuleOf ℕ) → Differ (scope_with given m).nets
nets_differ given m =
    let header = header_params given NoRange [] m.parameters in
    let start : Scope = params_scope (length header) (items_params header m.items) in
    items_differ (with_ports NoRange start m.ports) m.items
    (ports_differ NoRange start m.ports (pairs_none (λ (a b : Named ScopeNet). a.name ≢ b.name)))

-- ---- so in each instance

abbrev HasNames : ModuleInstance → Type 0
HasNames i = Differ i.scope.nets

abbrev HaveNames : List ModuleInstance → Type 0
HaveNames is = AllByRecursion HasNames is

child_names : (path : Full) (r : Readable) (x : InstanceOf ℕ) (k : ℕ) (o : Option (ModuleOf ℕ)) → HaveNames (child_of path r x k o)
child_names path r x k None = tt
child_names path r x k (Some m) = (nets_differ (overrides_of r x.parameters) m, tt)

placed_names : (ms : List (ModuleOf ℕ)) (path : Full) (r : Readable) (x : InstanceOf ℕ) (o : Option ℕ) → HaveNames (child_at ms path r x o)
placed_names ms path r x None = tt
placed_names ms path r x (Some k) = child_names path r x k (slice_get ms k)

item_names : (ms : List (ModuleOf ℕ)) (path : Full) (r : Readable) (item : ItemOf ℕ) → HaveNames (item_children ms path r item)
item_names ms path r (WiresItem range names) = tt
item_names ms path r (DrivenWiresItem range wires) = tt
item_names ms path r (RegsItem range regs) = tt
item_names ms path r (LocalparamsItem range parameters) = tt
item_names ms path r (AssignItem assigns) = tt
item_names ms path r (AlwaysItem a) = tt
item_names ms path r (InstanceItem x) = placed_names ms path r x (place_of ms x.module_id.name)

items_names : (ms : List (ModuleOf ℕ)) (path : Full) (s : Scope) (k : ℕ) (items : List (ItemOf ℕ))
    → HaveNames (children_from ms path s k items)
items_names ms path s k [] = tt
items_names ms path s k (item ∷ items) =
    each_append HasNames (item_children ms path (readable_at s k) item) (children_from ms path s (after_item s.params k item) items)
    (item_names ms path (readable_at s k) item) (items_names ms path s (after_item s.params k item) items)

children_names : (ms : List (ModuleOf ℕ)) (i : ModuleInstance) → HaveNames (children ms i)
unfolding children
children_names ms i = items_names ms i.path i.scope i.scope.declared i.tree.items

within_names : (n : ℕ) (ms : List (ModuleOf ℕ)) (i : ModuleInstance) → HasNames i → HaveNames (within n ms i)
unfolding within
within_names zero ms i h = tt
within_names (suc n) ms i h = (h, in_pieces HasNames HasNames (within n ms) (within_names n ms) (children ms i) (children_names ms i))

top_names : (k : ℕ) (o : Option (ModuleOf ℕ)) → HaveNames (top_of k o)
top_names k None = tt
top_names k (Some m) = (nets_differ [] m, tt)

placed_top_names : (ms : List (ModuleOf ℕ)) (o : Option ℕ) → HaveNames (top_at ms o)
placed_top_names ms None = tt
placed_top_names ms (Some k) = top_names k (slice_get ms k)

all_names : (file : FileOf ℕ) (name : List ℕ) → HaveNames (instances file name)
unfolding instances
all_names file name =
    in_pieces HasNames HasNames (within MOST_LEVELS file.modules) (within_names MOST_LEVELS file.modules)
    (top_at file.modules (place_of file.modules name)) (placed_top_names file.modules (place_of file.modules name))

-- ---- full names

abbrev IsOther : Full → Full → Type 0
IsOther a b = a ≢ b

-- no name behind this path is y
abbrev IsNotBehind : Full → Full → Type 0
IsNotBehind path y = (name : List ℕ) → path ++ name ∷ [] ≢ y

abbrev behind_path : Full → Nets → List Full
behind_path path ns = map (λ (n : Named ScopeNet). path ++ n.name ∷ []) ns

other_names : (path : Full) (name : List ℕ) (ns : Nets) → AllByRecursion (λ (b : Named ScopeNet). name ≢ b.name) ns
    → AllByRecursion (IsOther (path ++ name ∷ [])) (behind_path path ns)
other_names path name [] h = tt
other_names path name (n ∷ ns) h = ((λ e. h.0 (same_from_push path path name n.name e).1), other_names path name ns h.1)

other_paths : (path below : Full) (ns : Nets) → path ≢ below → AllByRecursion (IsNotBehind path) (behind_path below ns)
other_paths path below [] h = tt
other_paths path below (n ∷ ns) h = ((λ name e. h (same_from_push path below name n.name e).0), other_paths path below ns h)

one_behind : (path : Full) (ns : Nets) (rest : List Full) → Differ ns → AllByRecursion (IsNotBehind path) rest → AllPairs IsOther rest
    → AllPairs IsOther (behind_path path ns ++ rest)
one_behind path [] rest d h g = g
one_behind path (n ∷ ns) rest d h g =
    pairs_cons IsOther (path ++ n.name ∷ []) (behind_path path ns ++ rest)
    (each_append (IsOther (path ++ n.name ∷ [])) (behind_path path ns) rest
    (other_names path n.name ns (first_pairs (λ (a b : Named ScopeNet). a.name ≢ b.name) n ns d))
    (each_weaker (IsNotBehind path) (IsOther (path ++ n.name ∷ [])) (λ y f. f n.name) rest h))
    (one_behind path ns rest (rest_pairs (λ (a b : Named ScopeNet). a.name ≢ b.name) n ns d) h g)

abbrev full_names : ModuleInstance → List Full
full_names i = behind_path i.path i.scope.nets

all_differ : (is : List ModuleInstance) → AllPairs HasOtherPath is → HaveNames is → AllPairs IsOther (flat_map full_names is)
all_differ [] h g = pairs_none IsOther
all_differ (i ∷ is) h g =
    one_behind i.path i.scope.nets (flat_map full_names is) g.0
    (in_pieces (HasOtherPath i) (IsNotBehind i.path) full_names (λ b e. other_paths i.path b.path b.scope.nets e) is
    (first_pairs HasOtherPath i is h))
    (all_differ is (rest_pairs HasOtherPath i is h) g.1)

pub names_differ : PathsDiffer → NamesDiffer
names_differ paths file name top d clear built =
    subst (AllPairs IsOther)
    (sym (built_names (λ (p : Full). p) file.modules top (instances file name) d built) ∙ map-id (net_names d))
    (all_differ (instances file name) (paths file name clear) (all_names file name))
