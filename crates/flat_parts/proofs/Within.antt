-- The instances in an instance are those to which a path leads from it.
use Rattle.std.proofs.Common.{◌≡◌, ℕ, zero, suc, ◌≤◌, ◌⊎◌, inl, inr, List, [], ◌∷◌, ◌++◌, map, length, refl, sym, ap, subst, ◌∙◌}
use Rattle.std.proofs.Common.{arith, append-nil, append_assoc, Some, slice_get}
use Rattle.std.specs.List.{Contains, flat_map}
use Rattle.vlog_elab.proofs.vidi_bits_lemmas.Lists.{none_in, head_in, tail_in, cases_in, in_flat, from_flat}
use Rattle.vlog_elab.proofs.Added.{deeper}
use Rattle.vlog_tree.specs.Tree.{InstanceOf, ModuleOf}
use Rattle.vlog_elab.specs.vlog_size.declared.scope.Scope.{Scope}
use Rattle.vlog_elab.specs.vlog_names.Entries.{module_entry}
use Rattle.vlog_elab.specs.vlog_names.Different.{Differ}
use Rattle.vlog_elab.specs.vlog_hierarchy.Outlines.{place_of}
use Rattle.vlog_elab.specs.Instances.{ModuleInstance, children, within}
use Rattle.vlog_driver.specs.Names.{Full}
use Rattle.vlog_driver.specs.Placed.{placed_items}
use Rattle.vlog_driver.specs.Instances.{IsChild, Leads}
use Rattle.flat_parts.specs.Laws.{IsListed}
use Rattle.flat_parts.proofs.Lists.{long_flat}
use Rattle.flat_parts.proofs.Named.{named_at, place_is}
use Rattle.flat_parts.proofs.Kids.{Kid, kid_of, listed_kid, made, instance_at}

pub no_deeper : (ms : List (ModuleOf ℕ)) (i : ModuleInstance) → within zero ms i ≡ []
unfolding within
no_deeper ms i = refl

pub its_kid : (ms : List (ModuleOf ℕ)) (i c : ModuleInstance) → Contains (children ms i) c
    → Kid ms i.path i.scope (placed_items i.tree i.scope) c
unfolding children
its_kid ms i c h = kid_of ms i.path i.scope i.scope.declared i.tree.items c h

pub its_child : (ms : List (ModuleOf ℕ)) (i : ModuleInstance) (d : ℕ) (x : InstanceOf ℕ) (p : ℕ) (n : ModuleOf ℕ)
    → Contains (placed_items i.tree i.scope) (instance_at d x) → place_of ms x.module_id.name ≡ Some p → slice_get ms p ≡ Some n
    → Contains (children ms i) (made i.path i.scope d x p n)
unfolding children
its_child ms i d x p n h found there = listed_kid ms i.path i.scope i.scope.declared i.tree.items d x p n h found there

-- ---- from the list to a path

pub is_child : (ms : List (ModuleOf ℕ)) (i c : ModuleInstance) (d : Kid ms i.path i.scope (placed_items i.tree i.scope) c)
    → IsChild ms i.tree i.scope d.instance c.tree c.scope
is_child ms i c d =
    let at = named_at ms d.instance.module_id.name c.place c.tree d.place d.there in
    record { declared = d.declared; stands = d.stands; in_file = at.1; named = at.0; scope = d.scope }

-- a path from the instance i to the instance j
pub record Led (ms : List (ModuleOf ℕ)) (i j : ModuleInstance) : Type 0 where
  pub names : Full
  pub path : j.path ≡ i.path ++ names
  pub leads : Leads ms i.tree i.scope names j.tree j.scope

led_itself : (ms : List (ModuleOf ℕ)) (i j : ModuleInstance) → i ≡ j → Led ms i j
led_itself ms i j is = subst (Led ms i) is (record { names = []; path = sym (append-nil i.path); leads = (refl, refl) })

led_through : (ms : List (ModuleOf ℕ)) (i c j : ModuleInstance) → Contains (children ms i) c → Led ms c j → Led ms i j
led_through ms i c j there more =
    let d : Kid ms i.path i.scope (placed_items i.tree i.scope) c = its_kid ms i c there in
    record {
      names = d.instance.id.name ∷ more.names;
      path =
          more.path ∙ ap (λ (p : Full). p ++ more.names) d.path ∙ append_assoc i.path (d.instance.id.name ∷ []) more.names;
      leads = (d.instance, c.tree, c.scope, refl, is_child ms i c d, more.leads);
    }

pub led : (n : ℕ) (ms : List (ModuleOf ℕ)) (i j : ModuleInstance) → Contains (within n ms i) j → Led ms i j
led zero ms i j h = absurd (none_in j (subst (λ (is : List ModuleInstance). Contains is j) (no_deeper ms i) h))
led (suc n) ms i j h =
    elim (cases_in i (flat_map (within n ms) (children ms i)) j (subst (λ (is : List ModuleInstance). Contains is j) (deeper n ms i) h)) [
      | inl is ↦ led_itself ms i j is
      | inr more ↦ let r = from_flat (within n ms) (children ms i) j more in
          led_through ms i r.0 j r.1 (led n ms r.0 j r.2)
    ]

-- ---- from a path to the list, or there are as many instances as levels

pub record Made (ms : List (ModuleOf ℕ)) (i : ModuleInstance) (x : InstanceOf ℕ) (n : ModuleOf ℕ) (t : Scope) : Type 0 where
  pub instance : ModuleInstance
  pub listed : Contains (children ms i) instance
  pub path : instance.path ≡ i.path ++ x.id.name ∷ []
  pub tree : instance.tree ≡ n
  pub scope : instance.scope ≡ t
  pub there : slice_get ms instance.place ≡ Some instance.tree

pub made_child : (ms : List (ModuleOf ℕ)) → Differ (map module_entry ms) → (i : ModuleInstance) (x : InstanceOf ℕ) (n : ModuleOf ℕ)
    (t : Scope) → IsChild ms i.tree i.scope x n t → Made ms i x n t
made_child ms differ i x n t child =
    let at = place_is ms n child.in_file differ in
    let found : place_of ms x.module_id.name ≡ Some at.0 = ap (place_of ms) (sym child.named) ∙ at.1 in
    record {
      instance = made i.path i.scope child.declared x at.0 n;
      listed = its_child ms i child.declared x at.0 n child.stands found at.2;
      path = refl;
      tree = refl;
      scope = sym child.scope;
      there = at.2;
    }

abbrev pub Reached : ℕ → List (ModuleOf ℕ) → ModuleInstance → Full → ModuleOf ℕ → Scope → Type 0
Reached n ms i names m s = IsListed (within n ms i) (i.path ++ names) m s ⊎ (n ≤ length (within n ms i))

reached_through : (n : ℕ) (ms : List (ModuleOf ℕ)) (i : ModuleInstance) (x : InstanceOf ℕ) (child : ModuleOf ℕ) (inner : Scope)
    (names : Full) (m : ModuleOf ℕ) (s : Scope) (c : Made ms i x child inner) → Reached n ms c.instance names m s
    → Reached (suc n) ms i (x.id.name ∷ names) m s
reached_through n ms i x child inner names m s c (inl (j, there, path, tree, scope)) =
    inl (
      j,
      subst (λ (is : List ModuleInstance). Contains is j) (sym (deeper n ms i))
          (tail_in i (flat_map (within n ms) (children ms i)) j (in_flat (within n ms) (children ms i) c.instance j c.listed there)),
      path ∙ ap (λ (p : Full). p ++ names) c.path ∙ append_assoc i.path (x.id.name ∷ []) names,
      tree,
      scope,
    )
reached_through n ms i x child inner names m s c (inr many) =
    let long = long_flat (within n ms) (children ms i) c.instance c.listed in
    let whole : length (within (suc n) ms i) ≡ suc (length (flat_map (within n ms) (children ms i))) =
    ap (λ (is : List ModuleInstance). length is) (deeper n ms i) in
    inr (omega (arith, many, long, whole))

pub reached : (n : ℕ) (ms : List (ModuleOf ℕ)) → Differ (map module_entry ms) → (i : ModuleInstance) (names : Full) (m : ModuleOf ℕ)
    (s : Scope) → Leads ms i.tree i.scope names m s → Reached n ms i names m s
reached zero ms differ i names m s leads = inr (omega arith)
reached (suc n) ms differ i [] m s (tree, scope) =
    inl (
      i,
      subst (λ (is : List ModuleInstance). Contains is i) (sym (deeper n ms i)) (head_in i (flat_map (within n ms) (children ms i))),
      sym (append-nil i.path),
      tree,
      scope,
    )
reached (suc n) ms differ i (x ∷ names) m s (y, child, inner, named, is_child, leads) =
    let c : Made ms i y child inner = made_child ms differ i y child inner is_child in
    let on : Leads ms c.instance.tree c.instance.scope names m s =
    subst (λ (z : ModuleOf ℕ). Leads ms z c.instance.scope names m s) (sym c.tree)
    (subst (λ (z : Scope). Leads ms child z names m s) (sym c.scope) leads) in
    subst (λ (z : List ℕ). Reached (suc n) ms i (z ∷ names) m s) named
    (reached_through n ms i y child inner names m s c (reached n ms differ c.instance names m s on))
