-- The instances in a module of the file, as the outlines list them.
use Rattle.std.proofs.Common.{◌≡◌, ℕ, ◌⊎◌, inl, inr, List, [], ◌∷◌, map, refl, sym, ap, subst, ◌∙◌}
use Rattle.std.proofs.Common.{Option, None, Some, slice_get, option_map}
use Rattle.std.specs.List.{Contains, flat_map}
use Rattle.std.proofs.lemmas.Option.{slice_get-map}
use Rattle.flat_parts.proofs.vidi_bits_lemmas.Lists.{none_in, head_in, tail_in, cases_in, in_flat, from_flat}
use Rattle.vlog_tree.specs.Tree.{InstanceOf, ItemOf, WiresItem, DrivenWiresItem, RegsItem, LocalparamsItem, AssignItem, AlwaysItem}
use Rattle.vlog_tree.specs.Tree.{InstanceItem, ModuleOf}
use Rattle.flat_parts.specs.vlog_size.Table.{Named}
use Rattle.flat_parts.specs.vlog_size.declared.scope.Param.{Param}
use Rattle.flat_parts.specs.vlog_size.declared.scope.Scope.{Scope}
use Rattle.flat_parts.specs.vlog_elab.Scope.{readable_at, after_item, scope_of}
use Rattle.flat_parts.specs.vlog_hierarchy.Outlines.{Child, place_of, child_at, item_children, children_of, outline_of, outlines_of, children_in}
use Rattle.flat_parts.specs.vlog_hierarchy.Outlines.{children_at}
use Rattle.flat_parts.specs.vlog_driver.Placed.{Placed, placed}
use Rattle.flat_parts.specs.vlog_driver.Instances.{IsChild}
use Rattle.flat_parts.proofs.Named.{named_at, place_is}
use Rattle.flat_parts.specs.vlog_names.Entries.{module_entry}
use Rattle.flat_parts.specs.vlog_names.Different.{Differ}

pub kids_at : (ms : List (ModuleOf ℕ)) (k : ℕ) (m : ModuleOf ℕ) → slice_get ms k ≡ Some m
    → children_at (outlines_of ms) k ≡ flat_map (item_children ms) m.items
unfolding outlines_of children_of
kids_at ms k m at = ap children_in (slice_get-map (outline_of ms) ms k ∙ ap (option_map (outline_of ms)) at)

-- ---- an item stands behind some of the parameters

stands_first : (params : List (Named Param)) (k : ℕ) (x item : ItemOf ℕ) (items : List (ItemOf ℕ)) → x ≡ item
    → (j : ℕ) × Contains (placed params k (x ∷ items)) (record { declared = j; item = item })
stands_first params k x item items is = (
  k,
  subst (λ (y : ItemOf ℕ). Contains (placed params k (x ∷ items)) (record { declared = k; item = y })) is
      (head_in (record { declared = k; item = x }) (placed params (after_item params k x) items)),
)

stands_next : (params : List (Named Param)) (k : ℕ) (x item : ItemOf ℕ) (items : List (ItemOf ℕ))
    → (j : ℕ) × Contains (placed params (after_item params k x) items) (record { declared = j; item = item })
    → (j : ℕ) × Contains (placed params k (x ∷ items)) (record { declared = j; item = item })
stands_next params k x item items (j, there) =
    let next : List Placed = placed params (after_item params k x) items in
    (j, tail_in (record { declared = k; item = x }) next (record { declared = j; item = item }) there)

pub stands : (params : List (Named Param)) (k : ℕ) (items : List (ItemOf ℕ)) (item : ItemOf ℕ) → Contains items item
    → (j : ℕ) × Contains (placed params k items) (record { declared = j; item = item })
stands params k [] item h = absurd (none_in item h)
stands params k (x ∷ items) item h =
    elim (cases_in x items item h) [
      | inl is ↦ stands_first params k x item items is
      | inr rest ↦ stands_next params k x item items (stands params (after_item params k x) items item rest)
    ]

pub item_in : (params : List (Named Param)) (k : ℕ) (items : List (ItemOf ℕ)) (p : Placed) → Contains (placed params k items) p
    → Contains items p.item
item_in params k [] p h = absurd (none_in p h)
item_in params k (x ∷ items) p h =
    elim (cases_in (record { declared = k; item = x }) (placed params (after_item params k x) items) p h) [
      | inl is ↦ subst (λ (y : Placed). Contains (x ∷ items) y.item) is (head_in x items)
      | inr more ↦ tail_in x items p.item (item_in params (after_item params k x) items p more)
    ]

-- ---- children

-- a child is an item of the module, and its module is in the file
pub record IsKid (ms : List (ModuleOf ℕ)) (items : List (ItemOf ℕ)) (c : Child) : Type 0 where
  pub listed : Contains items (InstanceItem c.instance)
  pub place : place_of ms c.instance.module_id.name ≡ Some c.place

kid_at : (ms : List (ModuleOf ℕ)) (items : List (ItemOf ℕ)) (i : InstanceOf ℕ) (c : Child) (o : Option ℕ)
    → Contains items (InstanceItem i) → place_of ms i.module_id.name ≡ o → Contains (child_at i o) c → IsKid ms items c
kid_at ms items i c None listed is h = absurd (none_in c h)
kid_at ms items i c (Some p) listed is h = one (cases_in (record { instance = i; place = p }) [] c h)
  where
    one : (record { instance = i; place = p } ≡ c) ⊎ Contains [] c → IsKid ms items c
    one (inl same) = subst (IsKid ms items) same (record { listed = listed; place = is })
    one (inr off) = absurd (none_in c off)

kid_item : (ms : List (ModuleOf ℕ)) (items : List (ItemOf ℕ)) (item : ItemOf ℕ) (c : Child) → Contains items item
    → Contains (item_children ms item) c → IsKid ms items c
kid_item ms items (WiresItem range names) c listed h = absurd (none_in c h)
kid_item ms items (DrivenWiresItem range wires) c listed h = absurd (none_in c h)
kid_item ms items (RegsItem range regs) c listed h = absurd (none_in c h)
kid_item ms items (LocalparamsItem range params) c listed h = absurd (none_in c h)
kid_item ms items (AssignItem assigns) c listed h = absurd (none_in c h)
kid_item ms items (AlwaysItem a) c listed h = absurd (none_in c h)
kid_item ms items (InstanceItem i) c listed h = kid_at ms items i c (place_of ms i.module_id.name) listed refl h

pub is_kid : (ms : List (ModuleOf ℕ)) (k : ℕ) (m : ModuleOf ℕ) (c : Child) → slice_get ms k ≡ Some m
    → Contains (children_at (outlines_of ms) k) c → IsKid ms m.items c
is_kid ms k m c at h =
    let r = from_flat (item_children ms) m.items c (subst (λ (cs : List Child). Contains cs c) (kids_at ms k m at) h) in
    kid_item ms m.items r.0 c r.1 r.2

pub kid_listed : (ms : List (ModuleOf ℕ)) (k : ℕ) (m : ModuleOf ℕ) (c : Child) → slice_get ms k ≡ Some m → IsKid ms m.items c
    → Contains (children_at (outlines_of ms) k) c
kid_listed ms k m c at kid =
    subst (λ (cs : List Child). Contains cs c) (sym (kids_at ms k m at))
    (in_flat (item_children ms) m.items (InstanceItem c.instance) c kid.listed
    (subst (λ (o : Option ℕ). Contains (child_at c.instance o) c) (sym kid.place) (head_in c [])))

-- ---- children of an instance

-- a child's module and scope
pub record Own (ms : List (ModuleOf ℕ)) (m : ModuleOf ℕ) (s : Scope) (c : Child) : Type 0 where
  pub tree : ModuleOf ℕ
  pub scope : Scope
  pub there : slice_get ms c.place ≡ Some tree
  pub child : IsChild ms m s c.instance tree scope

pub own_child : (ms : List (ModuleOf ℕ)) (m : ModuleOf ℕ) (s : Scope) (c : Child) (n : ModuleOf ℕ) → IsKid ms m.items c
    → slice_get ms c.place ≡ Some n → Own ms m s c
own_child ms m s c n kid there =
    let at = stands s.params s.declared m.items (InstanceItem c.instance) kid.listed in
    let named = named_at ms c.instance.module_id.name c.place n kid.place there in
    record {
      tree = n;
      scope = scope_of (readable_at s at.0) c.instance.parameters n;
      there = there;
      child = record { declared = at.0; stands = at.1; in_file = named.1; named = named.0; scope = refl };
    }

-- the child that an instance is
pub record Listed (ms : List (ModuleOf ℕ)) (k : ℕ) (i : InstanceOf ℕ) (n : ModuleOf ℕ) : Type 0 where
  pub place : ℕ
  pub listed : Contains (children_at (outlines_of ms) k) (record { instance = i; place = place })
  pub there : slice_get ms place ≡ Some n

pub listed_child : (ms : List (ModuleOf ℕ)) → Differ (map module_entry ms) → (k : ℕ) (m : ModuleOf ℕ) (s : Scope) (i : InstanceOf ℕ)
    (n : ModuleOf ℕ) (t : Scope) → slice_get ms k ≡ Some m → IsChild ms m s i n t → Listed ms k i n
listed_child ms differ k m s i n t at child =
    let p = place_is ms n child.in_file differ in
    record {
      place = p.0;
      listed =
          kid_listed ms k m (record { instance = i; place = p.0 }) at
          (record {
            listed = item_in s.params s.declared m.items (record { declared = child.declared; item = InstanceItem i }) child.stands;
            place = ap (place_of ms) (sym child.named) ∙ p.1;
          });
      there = p.2;
    }
