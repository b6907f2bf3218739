-- The instances of a file have its modules at their places.
use Rattle.std.proofs.Common.{◌≡◌, ℕ, zero, suc, List, [], ◌∷◌, ◌++◌, map, Option, None, Some, slice_get, refl, ap, ◌∙◌}
use Rattle.std.specs.Prelude.{option_map}
use Rattle.std.specs.List.{flat_map, AllByRecursion}
use Rattle.std.proofs.lemmas.Option.{slice_get-map}
use Rattle.flat_parts.specs.Instances.{IsDeclaredIn}
use Rattle.vlog_tree.specs.Tree.{InstanceOf, ItemOf, WiresItem, DrivenWiresItem, RegsItem, LocalparamsItem, AssignItem, AlwaysItem}
use Rattle.vlog_tree.specs.Tree.{InstanceItem, ModuleOf, FileOf}
use Rattle.flat_parts.specs.vlog_size.declared.scope.Scope.{Scope}
use Rattle.flat_parts.specs.vlog_size.Names.{Readable}
use Rattle.flat_parts.specs.vlog_size.Table.{Named}
use Rattle.flat_parts.specs.vlog_scope.Scope.{readable_at, after_item}
use Rattle.flat_parts.specs.vlog_names.Entries.{Names, module_entry, modules_of}
use Rattle.flat_parts.specs.vlog_hierarchy.Outlines.{place_of}
use Rattle.flat_parts.specs.vlog_elab.Instances.{ModuleInstance, child_of, child_at, item_children, children_from, children, within, top_of, top_at}
use Rattle.flat_parts.specs.vlog_elab.Instances.{instances}
use Rattle.flat_drivers.specs.Laws.{InstancesAreDeclared}
use Rattle.flat_parts.specs.vlog_hierarchy.declared.nodes.TheConstants.{MOST_LEVELS}

-- ---- what holds of each of several lists holds of all

pub both_all : {X : Type 0} → (P : X → Type 0) (xs ys : List X) → AllByRecursion P xs → AllByRecursion P ys → AllByRecursion P (xs ++ ys)
both_all P [] ys h g = g
both_all P (x ∷ xs) ys h g = (h.0, both_all P xs ys h.1 g)

flat_all : {X : Type 0} → (P : X → Type 0) (f : X → List X) (xs : List X) → ((x : X) → P x → AllByRecursion P (f x))
    → AllByRecursion P xs → AllByRecursion P (flat_map f xs)
flat_all P f [] each h = tt
flat_all P f (x ∷ xs) each h = both_all P (f x) (flat_map f xs) (each x h.0) (flat_all P f xs each h.1)

weaker_all : {X : Type 0} → (P Q : X → Type 0) (xs : List X) → ((x : X) → P x → Q x) → AllByRecursion P xs → AllByRecursion Q xs
weaker_all P Q [] each h = tt
weaker_all P Q (x ∷ xs) each h = (each x h.0, weaker_all P Q xs each h.1)

module _ (ms : List (ModuleOf ℕ)) where
  -- an instance of the module at its place
  abbrev IsHere : ModuleInstance → Type 0
  IsHere i = slice_get ms i.place ≡ Some i.tree

  one_here : (path : List (List ℕ)) (r : Readable) (x : InstanceOf ℕ) (k : ℕ) (o : Option (ModuleOf ℕ)) → slice_get ms k ≡ o
      → AllByRecursion IsHere (child_of path r x k o)
  one_here path r x k None e = tt
  one_here path r x k (Some m) e = (e, tt)

  place_here : (path : List (List ℕ)) (r : Readable) (x : InstanceOf ℕ) (o : Option ℕ) → AllByRecursion IsHere (child_at ms path r x o)
  place_here path r x None = tt
  place_here path r x (Some k) = one_here path r x k (slice_get ms k) refl

  item_here : (path : List (List ℕ)) (r : Readable) (item : ItemOf ℕ) → AllByRecursion IsHere (item_children ms path r item)
  item_here path r (WiresItem range names) = tt
  item_here path r (DrivenWiresItem range wires) = tt
  item_here path r (RegsItem range regs) = tt
  item_here path r (LocalparamsItem range parameters) = tt
  item_here path r (AssignItem assigns) = tt
  item_here path r (AlwaysItem a) = tt
  item_here path r (InstanceItem x) = place_here path r x (place_of ms x.module_id.name)

  items_here : (path : List (List ℕ)) (s : Scope) (k : ℕ) (items : List (ItemOf ℕ))
      → AllByRecursion IsHere (children_from ms path s k items)
  items_here path s k [] = tt
  items_here path s k (item ∷ items) =
      both_all IsHere (item_children ms path (readable_at s k) item) (children_from ms path s (after_item s.params k item) items)
      (item_here path (readable_at s k) item) (items_here path s (after_item s.params k item) items)

  children_here : (i : ModuleInstance) → AllByRecursion IsHere (children ms i)
  unfolding children
  children_here i = items_here i.path i.scope i.scope.declared i.tree.items

  within_here : (n : ℕ) (i : ModuleInstance) → IsHere i → AllByRecursion IsHere (within n ms i)
  unfolding within
  within_here zero i h = tt
  within_here (suc n) i h = (h, flat_all IsHere (within n ms) (children ms i) (within_here n) (children_here i))

  top_of_here : (k : ℕ) (o : Option (ModuleOf ℕ)) → slice_get ms k ≡ o → AllByRecursion IsHere (top_of k o)
  top_of_here k None e = tt
  top_of_here k (Some m) e = (e, tt)

  top_here : (o : Option ℕ) → AllByRecursion IsHere (top_at ms o)
  top_here None = tt
  top_here (Some k) = top_of_here k (slice_get ms k) refl

all_here : (file : FileOf ℕ) (name : List ℕ) → AllByRecursion (IsHere file.modules) (instances file name)
unfolding instances
all_here file name = flat_all (IsHere file.modules) (within MOST_LEVELS file.modules) (top_at file.modules (place_of file.modules name))
    (within_here file.modules MOST_LEVELS) (top_here file.modules (place_of file.modules name))

declared_here : (file : FileOf ℕ) (i : ModuleInstance) → IsHere file.modules i → IsDeclaredIn (modules_of file) i
unfolding modules_of
declared_here file i h =
    slice_get-map (λ (m : Named Names). m.value) (map module_entry file.modules) i.place
    ∙ ap (option_map (λ (m : Named Names). m.value)) (slice_get-map module_entry file.modules i.place ∙ ap (option_map module_entry) h)

pub all_declared : InstancesAreDeclared
all_declared file name =
    weaker_all (IsHere file.modules) (IsDeclaredIn (modules_of file)) (instances file name) (declared_here file) (all_here file name)
