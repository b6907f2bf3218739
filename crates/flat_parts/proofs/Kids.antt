-- The instances that stand in an instance, each with the item that it is.
use Rattle.std.proofs.Common.{◌≡◌, ℕ, ◌⊎◌, inl, inr, List, [], ◌∷◌, ◌++◌, refl, sym, subst}
use Rattle.std.proofs.Common.{Option, None, Some, slice_get}
use Rattle.std.specs.List.{Contains}
use Rattle.std.proofs.lemmas.List.Elements.{Contains-append_left, Contains-append_right, Contains-append_cases}
use Rattle.vlog_elab.proofs.vidi_bits_lemmas.Lists.{none_in, head_in, tail_in, cases_in}
use Rattle.vlog_tree.specs.Tree.{InstanceOf, ItemOf, WiresItem, DrivenWiresItem, RegsItem, LocalparamsItem, AssignItem, AlwaysItem}
use Rattle.vlog_tree.specs.Tree.{InstanceItem, ModuleOf}
use Rattle.vlog_elab.specs.vlog_size.declared.scope.Scope.{Scope}
use Rattle.vlog_elab.specs.vlog_scope.Scope.{readable_at, after_item, scope_of}
use Rattle.vlog_elab.specs.vlog_hierarchy.Outlines.{place_of}
use Rattle.vlog_elab.specs.Instances.{ModuleInstance, child_of, child_at, item_children, children_from}
use Rattle.vlog_driver.specs.Placed.{Placed, placed}

-- an instance as an item, before which the names of the first k parameters stand
abbrev pub instance_at : ℕ → InstanceOf ℕ → Placed
instance_at k x = record { declared = k; item = InstanceItem x }

-- the instance that this item makes, of the module n at place p
abbrev pub made : List (List ℕ) → Scope → ℕ → InstanceOf ℕ → ℕ → ModuleOf ℕ → ModuleInstance
made path s k x p n = record {
  path = path ++ x.id.name ∷ [];
  place = p;
  tree = n;
  scope = scope_of (readable_at s k) x.parameters n;
}

-- one of the instances that these items make
pub record Kid (ms : List (ModuleOf ℕ)) (front : List (List ℕ)) (s : Scope) (items : List Placed) (c : ModuleInstance) : Type 0 where
  pub declared : ℕ
  pub instance : InstanceOf ℕ
  pub stands : Contains items (instance_at declared instance)
  pub path : c.path ≡ front ++ instance.id.name ∷ []
  pub place : place_of ms instance.module_id.name ≡ Some c.place
  pub there : slice_get ms c.place ≡ Some c.tree
  pub scope : c.scope ≡ scope_of (readable_at s declared) instance.parameters c.tree

-- ---- each listed instance is one of an item

own_kid : (ms : List (ModuleOf ℕ)) (path : List (List ℕ)) (s : Scope) (k : ℕ) (items : List Placed) (x : InstanceOf ℕ) (p : ℕ)
    (n : ModuleOf ℕ) (c : ModuleInstance) → Contains items (instance_at k x) → place_of ms x.module_id.name ≡ Some p
    → slice_get ms p ≡ Some n → made path s k x p n ≡ c → Kid ms path s items c
own_kid ms path s k items x p n c stands found there is =
    subst (Kid ms path s items) is
    (record { declared = k; instance = x; stands = stands; path = refl; place = found; there = there; scope = refl })

only : (x y : ModuleInstance) → Contains (x ∷ []) y → x ≡ y
only x y h = one (cases_in x [] y h)
  where
    one : (x ≡ y) ⊎ Contains [] y → x ≡ y
    one (inl is) = is
    one (inr off) = absurd (none_in y off)

kid_of_place : (ms : List (ModuleOf ℕ)) (path : List (List ℕ)) (s : Scope) (k : ℕ) (items : List Placed) (x : InstanceOf ℕ)
    (c : ModuleInstance) (p : ℕ) (o : Option (ModuleOf ℕ)) → Contains items (instance_at k x)
    → place_of ms x.module_id.name ≡ Some p → slice_get ms p ≡ o → Contains (child_of path (readable_at s k) x p o) c
    → Kid ms path s items c
kid_of_place ms path s k items x c p None stands found there h = absurd (none_in c h)
kid_of_place ms path s k items x c p (Some n) stands found there h =
    own_kid ms path s k items x p n c stands found there (only (made path s k x p n) c h)

kid_of_instance : (ms : List (ModuleOf ℕ)) (path : List (List ℕ)) (s : Scope) (k : ℕ) (items : List Placed) (x : InstanceOf ℕ)
    (c : ModuleInstance) (o : Option ℕ) → Contains items (instance_at k x) → place_of ms x.module_id.name ≡ o
    → Contains (child_at ms path (readable_at s k) x o) c → Kid ms path s items c
kid_of_instance ms path s k items x c None stands found h = absurd (none_in c h)
kid_of_instance ms path s k items x c (Some p) stands found h =
    kid_of_place ms path s k items x c p (slice_get ms p) stands found refl h

kid_of_item : (ms : List (ModuleOf ℕ)) (path : List (List ℕ)) (s : Scope) (k : ℕ) (items : List Placed) (item : ItemOf ℕ)
    (c : ModuleInstance) → Contains items (record { declared = k; item = item })
    → Contains (item_children ms path (readable_at s k) item) c → Kid ms path s items c
kid_of_item ms path s k items (WiresItem range names) c stands h = absurd (none_in c h)
kid_of_item ms path s k items (DrivenWiresItem range wires) c stands h = absurd (none_in c h)
kid_of_item ms path s k items (RegsItem range regs) c stands h = absurd (none_in c h)
kid_of_item ms path s k items (LocalparamsItem range params) c stands h = absurd (none_in c h)
kid_of_item ms path s k items (AssignItem assigns) c stands h = absurd (none_in c h)
kid_of_item ms path s k items (AlwaysItem a) c stands h = absurd (none_in c h)
kid_of_item ms path s k items (InstanceItem x) c stands h =
    kid_of_instance ms path s k items x c (place_of ms x.module_id.name) stands refl h

more_kids : (ms : List (ModuleOf ℕ)) (path : List (List ℕ)) (s : Scope) (y : Placed) (items : List Placed) (c : ModuleInstance)
    → Kid ms path s items c → Kid ms path s (y ∷ items) c
more_kids ms path s y items c d = record {
  declared = d.declared;
  instance = d.instance;
  stands = tail_in y items (instance_at d.declared d.instance) d.stands;
  path = d.path;
  place = d.place;
  there = d.there;
  scope = d.scope;
}

pub kid_of : (ms : List (ModuleOf ℕ)) (path : List (List ℕ)) (s : Scope) (k : ℕ) (items : List (ItemOf ℕ)) (c : ModuleInstance)
    → Contains (children_from ms path s k items) c → Kid ms path s (placed s.params k items) c
kid_of ms path s k [] c h = absurd (none_in c h)
kid_of ms path s k (item ∷ items) c h =
    elim (Contains-append_cases (item_children ms path (readable_at s k) item)
    (children_from ms path s (after_item s.params k item) items) c h) [
      | inl own ↦ kid_of_item ms path s k (placed s.params k (item ∷ items)) item c
          (head_in (record { declared = k; item = item }) (placed s.params (after_item s.params k item) items)) own
      | inr more ↦ more_kids ms path s (record { declared = k; item = item }) (placed s.params (after_item s.params k item) items) c
          (kid_of ms path s (after_item s.params k item) items c more)
    ]

-- ---- each item that is an instance makes one

made_here : (ms : List (ModuleOf ℕ)) (path : List (List ℕ)) (s : Scope) (k : ℕ) (x : InstanceOf ℕ) (p : ℕ) (n : ModuleOf ℕ)
    → place_of ms x.module_id.name ≡ Some p → slice_get ms p ≡ Some n
    → Contains (item_children ms path (readable_at s k) (InstanceItem x)) (made path s k x p n)
made_here ms path s k x p n found there =
    subst (λ o. Contains (child_at ms path (readable_at s k) x o) (made path s k x p n)) (sym found)
    (subst (λ o. Contains (child_of path (readable_at s k) x p o) (made path s k x p n)) (sym there) (head_in (made path s k x p n) []))

pub listed_kid : (ms : List (ModuleOf ℕ)) (path : List (List ℕ)) (s : Scope) (k : ℕ) (items : List (ItemOf ℕ)) (d : ℕ) (x : InstanceOf ℕ)
    (p : ℕ) (n : ModuleOf ℕ) → Contains (placed s.params k items) (instance_at d x)
    → place_of ms x.module_id.name ≡ Some p → slice_get ms p ≡ Some n
    → Contains (children_from ms path s k items) (made path s d x p n)
listed_kid ms path s k [] d x p n h found there = absurd (none_in (instance_at d x) h)
listed_kid ms path s k (item ∷ items) d x p n h found there =
    elim (cases_in (record { declared = k; item = item }) (placed s.params (after_item s.params k item) items) (instance_at d x) h) [
      | inl is ↦ Contains-append_left (item_children ms path (readable_at s k) item)
          (children_from ms path s (after_item s.params k item) items) (made path s d x p n)
          (subst (λ (y : Placed). Contains (item_children ms path (readable_at s y.declared) y.item) (made path s d x p n)) (sym is)
          (made_here ms path s d x p n found there))
      | inr more ↦ Contains-append_right (item_children ms path (readable_at s k) item)
          (children_from ms path s (after_item s.params k item) items) (made path s d x p n)
          (listed_kid ms path s (after_item s.params k item) items d x p n more found there)
    ]
