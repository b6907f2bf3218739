-- The scopes of instances in which nothing is found.
use Rattle.std.proofs.Common.{◌≡◌, ℕ, zero, suc, true, List, [], ◌∷◌, ◌++◌, Option, None, Some, slice_get, refl, sym, ◌∙◌}
use Rattle.std.specs.List.{flat_map, AllByRecursion}
use Rattle.std.proofs.lemmas.Grind.{flat_map-append}
use Rattle.flat_parts.proofs.vidi_bits_lemmas.Lists.{none_mapped}
use Rattle.vlog_tree.specs.Tree.{InstanceOf, ItemOf, WiresItem, DrivenWiresItem, RegsItem, LocalparamsItem, AssignItem, AlwaysItem}
use Rattle.vlog_tree.specs.Tree.{InstanceItem, ModuleOf}
use Rattle.flat_parts.specs.vlog_size.declared.scope.Scope.{Scope}
use Rattle.flat_parts.specs.vlog_size.Names.{params_alone, is_lawful_scope}
use Rattle.flat_parts.specs.vlog_scope.declared.fault.FaultKind.{FaultKind}
use Rattle.flat_parts.specs.vlog_scope.declared.fault.FaultKind.TheVariants.{Constant, Width}
use Rattle.flat_parts.specs.vlog_scope.Scope.{readable_at, after_item}
use Rattle.flat_parts.specs.vlog_scope.Faults.{override_faults, conn_faults, item_faults, items_faults, ports_faults, parameters_faults, scope_faults}
use Rattle.flat_parts.specs.vlog_scope.Faults.{const_faults, width_faults}
use Rattle.flat_parts.specs.vlog_scope.declared.extent.Extent.TheVariants.{NoRange}
use Rattle.flat_parts.proofs.vlog_scope_lemmas.LawfulPlaces.{lawful_scope, lawful_declared}
use Rattle.flat_parts.specs.vlog_hierarchy.Outlines.{place_of}
use Rattle.flat_parts.specs.vlog_elab.Errors.{of_size}
use Rattle.flat_parts.specs.vlog_elab.Instances.{ModuleInstance, child_of, child_at, item_children, children_from, children, within, top_of, top_at}
use Rattle.flat_parts.specs.vlog_elab.Instances.{instances}
use Rattle.flat_parts.specs.vlog_elab.Reasons.{instance_consts, instance_widths}
use Rattle.flat_drivers.specs.Seated.{IsFaultlessInstance}
use Rattle.flat_drivers.specs.Laws.{InstancesAreFaultless}
use Rattle.flat_drivers.proofs.Declared.{both_all}
use Rattle.flat_parts.specs.vlog_hierarchy.declared.nodes.TheConstants.{MOST_LEVELS}

-- ---- empty lists

pub parts_empty : {A : Type 0} → (xs ys : List A) → xs ++ ys ≡ [] → (xs ≡ []) × (ys ≡ [])
parts_empty [] ys h = (refl, h)
parts_empty (x ∷ xs) ys h = absurd (cc)

pub consts_empty : (i : ModuleInstance) → instance_consts i ≡ [] → const_faults i.tree i.scope ≡ []
unfolding instance_consts
consts_empty i h = none_mapped of_size (const_faults i.tree i.scope) h

pub widths_empty : (i : ModuleInstance) → instance_widths i ≡ [] → width_faults i.tree i.scope ≡ []
unfolding instance_widths
widths_empty i h = none_mapped of_size (width_faults i.tree i.scope) h

pub items_empty : (kind : FaultKind) (m : ModuleOf ℕ) (s : Scope) → scope_faults kind m s ≡ [] → items_faults kind s s.declared m.items ≡ []
unfolding scope_faults
items_empty kind m s h =
    (parts_empty (ports_faults kind (readable_at s s.declared) NoRange m.ports) (items_faults kind s s.declared m.items)
    (parts_empty (parameters_faults kind s 0 NoRange m.parameters)
    (ports_faults kind (readable_at s s.declared) NoRange m.ports ++ items_faults kind s s.declared m.items) h).1).1

overrides_empty : (kind : FaultKind) (s : Scope) (k : ℕ) (x : InstanceOf ℕ) → item_faults kind s k (InstanceItem x) ≡ []
    → flat_map (override_faults kind (readable_at s k)) x.parameters ≡ []
unfolding item_faults
overrides_empty kind s k x h =
    (parts_empty (flat_map (override_faults kind (readable_at s k)) x.parameters) (flat_map (conn_faults kind (readable_at s k)) x.ports)
    h).0

-- ---- children

-- a scope in which nothing is found is lawful
abbrev IsGood : ModuleInstance → Type 0
IsGood i = const_faults i.tree i.scope ≡ [] → width_faults i.tree i.scope ≡ [] → is_lawful_scope i.scope ≡ true

module _ (ms : List (ModuleOf ℕ)) where
  module _ (path : List (List ℕ)) (s : Scope) (lawful : is_lawful_scope s ≡ true) where
    child_good : (k n : ℕ) (x : InstanceOf ℕ) (o : Option (ModuleOf ℕ))
        → flat_map (override_faults Constant (readable_at s k)) x.parameters ≡ []
        → flat_map (override_faults Width (readable_at s k)) x.parameters ≡ []
        → AllByRecursion IsGood (child_of path (readable_at s k) x n o)
    child_good k n x None h g = tt
    child_good k n x (Some m) h g =
        ((λ c w. lawful_scope (readable_at s k) x.parameters m (lawful_declared s k lawful) h g c w), tt)

    place_good : (k : ℕ) (x : InstanceOf ℕ) (o : Option ℕ) → flat_map (override_faults Constant (readable_at s k)) x.parameters ≡ []
        → flat_map (override_faults Width (readable_at s k)) x.parameters ≡ []
        → AllByRecursion IsGood (child_at ms path (readable_at s k) x o)
    place_good k x None h g = tt
    place_good k x (Some n) h g = child_good k n x (slice_get ms n) h g

    item_good : (k : ℕ) (item : ItemOf ℕ) → item_faults Constant s k item ≡ [] → item_faults Width s k item ≡ []
        → AllByRecursion IsGood (item_children ms path (readable_at s k) item)
    item_good k (WiresItem range names) h g = tt
    item_good k (DrivenWiresItem range wires) h g = tt
    item_good k (RegsItem range regs) h g = tt
    item_good k (LocalparamsItem range parameters) h g = tt
    item_good k (AssignItem assigns) h g = tt
    item_good k (AlwaysItem a) h g = tt
    item_good k (InstanceItem x) h g =
        place_good k x (place_of ms x.module_id.name) (overrides_empty Constant s k x h) (overrides_empty Width s k x g)

    items_good : (k : ℕ) (items : List (ItemOf ℕ)) → items_faults Constant s k items ≡ [] → items_faults Width s k items ≡ []
        → AllByRecursion IsGood (children_from ms path s k items)
    items_good k [] h g = tt
    items_good k (item ∷ items) h g =
        let next = after_item s.params k item in
        let c = parts_empty (item_faults Constant s k item) (items_faults Constant s next items) h in
        let w = parts_empty (item_faults Width s k item) (items_faults Width s next items) g in
        both_all IsGood (item_children ms path (readable_at s k) item) (children_from ms path s next items) (item_good k item c.0 w.0)
        (items_good next items c.1 w.1)

  children_good : (i : ModuleInstance) → is_lawful_scope i.scope ≡ true → const_faults i.tree i.scope ≡ []
      → width_faults i.tree i.scope ≡ [] → AllByRecursion IsGood (children ms i)
  unfolding children
  children_good i lawful c w = items_good i.path i.scope lawful i.scope.declared i.tree.items (items_empty Constant i.tree i.scope c)
      (items_empty Width i.tree i.scope w)

  -- ---- levels

  -- what is shown of all instances in one
  abbrev IsShown : ℕ → ModuleInstance → Type 0
  IsShown n i = IsGood i → flat_map instance_consts (within n ms i) ≡ [] → flat_map instance_widths (within n ms i) ≡ []
      → AllByRecursion IsFaultlessInstance (within n ms i)

  all_shown : (n : ℕ) (is : List ModuleInstance) → ((i : ModuleInstance) → IsShown n i) → AllByRecursion IsGood is
      → flat_map instance_consts (flat_map (within n ms) is) ≡ [] → flat_map instance_widths (flat_map (within n ms) is) ≡ []
      → AllByRecursion IsFaultlessInstance (flat_map (within n ms) is)
  all_shown n [] each good h g = tt
  all_shown n (i ∷ is) each good h g =
      let c = parts_empty (flat_map instance_consts (within n ms i)) (flat_map instance_consts (flat_map (within n ms) is))
      (sym (flat_map-append instance_consts (within n ms i) (flat_map (within n ms) is)) ∙ h) in
      let w = parts_empty (flat_map instance_widths (within n ms i)) (flat_map instance_widths (flat_map (within n ms) is))
      (sym (flat_map-append instance_widths (within n ms i) (flat_map (within n ms) is)) ∙ g) in
      both_all IsFaultlessInstance (within n ms i) (flat_map (within n ms) is) (each i good.0 c.0 w.0) (all_shown n is each good.1 c.1 w.1)

  within_shown : (n : ℕ) (i : ModuleInstance) → IsShown n i
  unfolding within
  within_shown zero i good h g = tt
  within_shown (suc n) i good h g =
      let c = parts_empty (instance_consts i) (flat_map instance_consts (flat_map (within n ms) (children ms i))) h in
      let w = parts_empty (instance_widths i) (flat_map instance_widths (flat_map (within n ms) (children ms i))) g in
      let lawful = good (consts_empty i c.0) (widths_empty i w.0) in (
        record { lawful = lawful; consts = c.0; widths = w.0 },
        all_shown n (children ms i) (within_shown n) (children_good i lawful (consts_empty i c.0) (widths_empty i w.0)) c.1 w.1,
      )

  top_of_good : (k : ℕ) (o : Option (ModuleOf ℕ)) → AllByRecursion IsGood (top_of k o)
  top_of_good k None = tt
  top_of_good k (Some m) = ((λ c w. lawful_scope (params_alone []) [] m refl refl refl c w), tt)

  top_good : (o : Option ℕ) → AllByRecursion IsGood (top_at ms o)
  top_good None = tt
  top_good (Some k) = top_of_good k (slice_get ms k)

pub all_faultless : InstancesAreFaultless
unfolding instances
all_faultless file name h g =
    all_shown file.modules MOST_LEVELS (top_at file.modules (place_of file.modules name)) (within_shown file.modules MOST_LEVELS)
    (top_good file.modules (place_of file.modules name)) h g
