-- The instances with scopes are the instances that are counted.
use Rattle.std.proofs.Common.{◌≡◌, ℕ, zero, suc, List, [], ◌∷◌, ◌++◌, map, refl, sym, ap, ◌∙◌, append-nil, Option, None, Some, slice_get}
use Rattle.std.proofs.Common.{option_map}
use Rattle.std.specs.List.{flat_map}
use Rattle.std.proofs.lemmas.List.{map-append}
use Rattle.std.proofs.lemmas.Grind.{flat_map-append}
use Rattle.std.proofs.lemmas.Option.{slice_get-map}
use Rattle.vlog_tree.specs.Tree.{InstanceOf, ItemOf, WiresItem, DrivenWiresItem, RegsItem, LocalparamsItem, AssignItem, AlwaysItem}
use Rattle.vlog_tree.specs.Tree.{InstanceItem, ModuleOf, FileOf}
use Rattle.vlog_hierarchy.specs.vlog_size.declared.scope.Scope.{Scope}
use Rattle.vlog_hierarchy.specs.vlog_size.Names.{Readable}
use Rattle.vlog_scope.specs.Scope.{readable_at, after_item, scope_of, scope_with}
use Rattle.vlog_hierarchy.specs.Outlines.{Child, Outline, place_of, outline_of, outlines_of, children_of, children_in, children_at}
use Rattle.vlog_hierarchy.specs.Outlines as outlines
use Rattle.vlog_hierarchy.specs.Nodes.{Node, nodes, child_nodes, nodes_of}
use Rattle.vlog_elab.specs.Instances.{ModuleInstance, child_of, child_at, item_children, children_from, children, within, top_of, top_at}
use Rattle.vlog_elab.specs.Instances.{instances, node_of}
use Rattle.vlog_elab.proofs.Places.{there}
use Rattle.vlog_hierarchy.specs.declared.nodes.TheConstants.{MOST_LEVELS}

-- each instance of a module of the file is the node of that module
abbrev AreNodes : ℕ → List (ModuleOf ℕ) → Type 0
AreNodes n ms = (i : ModuleInstance) → slice_get ms i.place ≡ Some i.tree
    → map node_of (within n ms i) ≡ nodes n (outlines_of ms) i.path i.place

abbrev below : (n : ℕ) (ms : List (ModuleOf ℕ)) → List ModuleInstance → List Node
below n ms is = map node_of (flat_map (within n ms) is)

one_node : (n : ℕ) (ms : List (ModuleOf ℕ)) → AreNodes n ms → (i : ModuleInstance) → slice_get ms i.place ≡ Some i.tree
    → map node_of (within n ms i ++ []) ≡ nodes n (outlines_of ms) i.path i.place ++ []
one_node n ms are i at =
    ap (map node_of) (append-nil (within n ms i)) ∙ (are i at ∙ sym (append-nil (nodes n (outlines_of ms) i.path i.place)))

same_child : (n : ℕ) (ms : List (ModuleOf ℕ)) → AreNodes n ms → (path : List (List ℕ)) (r : Readable) (x : InstanceOf ℕ) (o : Option ℕ)
    → ((k : ℕ) → o ≡ Some k → (m : ModuleOf ℕ) × (slice_get ms k ≡ Some m))
    → below n ms (child_at ms path r x o) ≡ flat_map (child_nodes n (outlines_of ms) path) (outlines.child_at x o)
same_child n ms are path r x None is = refl
same_child n ms are path r x (Some k) is = one (is k refl)
  where
    one : (m : ModuleOf ℕ) × (slice_get ms k ≡ Some m)
        → below n ms (child_at ms path r x (Some k)) ≡ flat_map (child_nodes n (outlines_of ms) path) (outlines.child_at x (Some k))
    one (m, at) =
        ap (λ (o : Option (ModuleOf ℕ)). below n ms (child_of path r x k o)) at
        ∙ one_node n ms are (record { path = path ++ x.id.name ∷ []; place = k; tree = m; scope = scope_of r x.parameters m }) at

same_item : (n : ℕ) (ms : List (ModuleOf ℕ)) → AreNodes n ms → (path : List (List ℕ)) (r : Readable) (item : ItemOf ℕ)
    → below n ms (item_children ms path r item)
    ≡ flat_map (child_nodes n (outlines_of ms) path) (outlines.item_children ms item)
same_item n ms are path r (WiresItem range names) = refl
same_item n ms are path r (DrivenWiresItem range wires) = refl
same_item n ms are path r (RegsItem range regs) = refl
same_item n ms are path r (LocalparamsItem range parameters) = refl
same_item n ms are path r (AssignItem assigns) = refl
same_item n ms are path r (AlwaysItem a) = refl
same_item n ms are path r (InstanceItem x) =
    same_child n ms are path r x (place_of ms x.module_id.name) (there ms x.module_id.name)

same_items : (n : ℕ) (ms : List (ModuleOf ℕ)) → AreNodes n ms → (path : List (List ℕ)) (s : Scope) (k : ℕ) (items : List (ItemOf ℕ))
    → below n ms (children_from ms path s k items)
    ≡ flat_map (child_nodes n (outlines_of ms) path) (flat_map (outlines.item_children ms) items)
same_items n ms are path s k [] = refl
same_items n ms are path s k (item ∷ items) =
    ap (map node_of) (flat_map-append (within n ms) (item_children ms path (readable_at s k) item)
    (children_from ms path s (after_item s.params k item) items))
    ∙ (map-append node_of (flat_map (within n ms) (item_children ms path (readable_at s k) item))
    (flat_map (within n ms) (children_from ms path s (after_item s.params k item) items))
    ∙ (ap (λ (xs : List Node). xs ++ below n ms (children_from ms path s (after_item s.params k item) items))
    (same_item n ms are path (readable_at s k) item)
    ∙ (ap (λ (xs : List Node). flat_map (child_nodes n (outlines_of ms) path) (outlines.item_children ms item) ++ xs)
    (same_items n ms are path s (after_item s.params k item) items)
    ∙ sym (flat_map-append (child_nodes n (outlines_of ms) path) (outlines.item_children ms item)
    (flat_map (outlines.item_children ms) items)))))

its_children : (ms : List (ModuleOf ℕ)) (k : ℕ) (m : ModuleOf ℕ) → slice_get ms k ≡ Some m
    → children_at (outlines_of ms) k ≡ flat_map (outlines.item_children ms) m.items
unfolding outlines_of children_of
its_children ms k m at =
    ap children_in (slice_get-map (outline_of ms) ms k ∙ ap (option_map (outline_of ms)) at)

are_nodes : (n : ℕ) (ms : List (ModuleOf ℕ)) → AreNodes n ms
unfolding within nodes children
are_nodes zero ms i at = refl
are_nodes (suc n) ms i at =
    ap (λ (xs : List Node). node_of i ∷ xs)
    (same_items n ms (are_nodes n ms) i.path i.scope i.scope.declared i.tree.items
    ∙ ap (flat_map (child_nodes n (outlines_of ms) i.path)) (sym (its_children ms i.place i.tree at)))

same_top : (ms : List (ModuleOf ℕ)) (o : Option ℕ) → ((k : ℕ) → o ≡ Some k → (m : ModuleOf ℕ) × (slice_get ms k ≡ Some m))
    → below MOST_LEVELS ms (top_at ms o) ≡ nodes_of (outlines_of ms) o
unfolding nodes_of
same_top ms None is = refl
same_top ms (Some k) is = one (is k refl)
  where
    one : (m : ModuleOf ℕ) × (slice_get ms k ≡ Some m) → below MOST_LEVELS ms (top_at ms (Some k)) ≡ nodes MOST_LEVELS (outlines_of ms) [] k
    one (m, at) =
        ap (λ (o : Option (ModuleOf ℕ)). below MOST_LEVELS ms (top_of k o)) at
        ∙ (ap (map node_of) (append-nil (within MOST_LEVELS ms (record { path = []; place = k; tree = m; scope = scope_with [] m })))
        ∙ are_nodes MOST_LEVELS ms (record { path = []; place = k; tree = m; scope = scope_with [] m }) at)

pub same_nodes : (file : FileOf ℕ) (top : List ℕ)
    → map node_of (instances file top) ≡ nodes_of (outlines_of file.modules) (place_of file.modules top)
unfolding instances
same_nodes file top = same_top file.modules (place_of file.modules top) (there file.modules top)
