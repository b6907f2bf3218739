-- Names that are joined to ports of the top, down a path.
use Rattle.std.proofs.Common.{◌≡◌, ℕ, zero, suc, ◌≤◌, ◌⊎◌, inl, inr, List, [], ◌∷◌, map, length, refl, sym, ap, subst, ◌∙◌}
use Rattle.std.proofs.Common.{arith, Option, Some, slice_get}
use Rattle.std.specs.List.{Contains, flat_map}
use Rattle.flat_parts.proofs.vidi_bits_lemmas.Lists.{none_in, head_in, tail_in, cases_in, in_flat, from_flat}
use Rattle.vlog_tree.specs.Tree.{InstanceOf, InstanceItem, ModuleOf}
use Rattle.flat_parts.specs.vlog_size.Table.{Named, value_of}
use Rattle.flat_parts.specs.vlog_size.declared.scope.Scope.{Scope}
use Rattle.flat_parts.specs.vlog_names.Entries.{module_entry}
use Rattle.flat_parts.specs.vlog_names.Different.{Differ}
use Rattle.flat_parts.specs.vlog_names.Twice.{twice_connected}
use Rattle.flat_parts.specs.vlog_hierarchy.declared.scopes.Scope as hierarchy
use Rattle.flat_parts.specs.vlog_hierarchy.Outlines.{Child, outlines_of, children_at}
use Rattle.flat_parts.specs.vlog_hierarchy.Clock.{scopes, child_scopes, child_joined}
use Rattle.flat_parts.proofs.vlog_hierarchy_lemmas.Scoped.{no_deeper, deeper}
use Rattle.flat_parts.proofs.vlog_elab_lemmas.Places.{there}
use Rattle.flat_parts.specs.vlog_driver.Names.{Name, Full}
use Rattle.flat_parts.specs.vlog_driver.Settled.{Joins}
use Rattle.flat_parts.proofs.Lists.{long_flat, in_got}
use Rattle.flat_clock.proofs.Tables.{Plain, plain_joined, JoinedBy, joined_by, joined_as_outer}
use Rattle.flat_clock.proofs.Children.{IsKid, is_kid, Own, own_child, Listed, listed_child, item_in}

-- ---- from an instance's joined names to a path

-- the instance of these joined names, and the names outside to which its own are joined
pub record Traced (ms : List (ModuleOf ℕ)) (m : ModuleOf ℕ) (s : Scope) (js : List (Named ℕ)) (g : hierarchy.Scope) : Type 0 where
  pub path : Full
  pub tree : ModuleOf ℕ
  pub scope : Scope
  pub there : slice_get ms g.place ≡ Some tree
  pub joins : (inner : Name) (p : ℕ) → value_of g.joined inner ≡ Some p
      → (outer : Name) × (value_of js outer ≡ Some p) × Joins ms m s outer path tree scope inner

traced_itself : (ms : List (ModuleOf ℕ)) (m : ModuleOf ℕ) (s : Scope) (js : List (Named ℕ)) (k : ℕ) (g : hierarchy.Scope)
    → slice_get ms k ≡ Some m → record { place = k; joined = js } ≡ g → Traced ms m s js g
traced_itself ms m s js k g at is =
    subst (Traced ms m s js) is
    (record { path = []; tree = m; scope = s; there = at; joins = λ inner p h. (inner, h, (refl, refl, refl)) })

traced_through : (ms : List (ModuleOf ℕ)) (m : ModuleOf ℕ) (s : Scope) (js : List (Named ℕ)) (c : Child) (g : hierarchy.Scope)
    (o : Own ms m s c) → Traced ms o.tree o.scope (child_joined js c.instance) g → Traced ms m s js g
traced_through ms m s js c g o t = record {
  path = c.instance.id.name ∷ t.path;
  tree = t.tree;
  scope = t.scope;
  there = t.there;
  joins = out;
}
  where
    by_conn : (inner port : Name) (p : ℕ) (j : JoinedBy js c.instance.ports port p) → Plain js j.conn.value p
        → Joins ms o.tree o.scope port t.path t.tree t.scope inner
        → (outer : Name) × (value_of js outer ≡ Some p) × Joins ms m s outer (c.instance.id.name ∷ t.path) t.tree t.scope inner
    by_conn inner port p j q rest = (
      q.outer,
      q.joined,
      (c.instance, o.tree, o.scope, port, refl, o.child, (j.conn, j.listed, (j.named, q.line, q.value)), rest),
    )

    out : (inner : Name) (p : ℕ) → value_of g.joined inner ≡ Some p
        → (outer : Name) × (value_of js outer ≡ Some p) × Joins ms m s outer (c.instance.id.name ∷ t.path) t.tree t.scope inner
    out inner p h =
        let r = t.joins inner p h in
        let j : JoinedBy js c.instance.ports r.0 p = joined_by js c.instance r.0 p r.1 in
        by_conn inner r.0 p j (plain_joined js j.conn.value p j.joined) r.2

pub traced : (n : ℕ) (ms : List (ModuleOf ℕ)) (m : ModuleOf ℕ) (s : Scope) (js : List (Named ℕ)) (k : ℕ) (g : hierarchy.Scope)
    → slice_get ms k ≡ Some m → Contains (scopes n (outlines_of ms) js k) g → Traced ms m s js g
traced zero ms m s js k g at h =
    absurd (none_in g (subst (λ (gs : List hierarchy.Scope). Contains gs g) (no_deeper (outlines_of ms) js k) h))
traced (suc n) ms m s js k g at h =
    elim (cases_in (record { place = k; joined = js }) (flat_map (child_scopes n (outlines_of ms) js) (children_at (outlines_of ms) k)) g
    (subst (λ (gs : List hierarchy.Scope). Contains gs g) (deeper n (outlines_of ms) js k) h)) [
      | inl is ↦ traced_itself ms m s js k g at is
      | inr more ↦ let r = from_flat (child_scopes n (outlines_of ms) js) (children_at (outlines_of ms) k) g more in
          let kid : IsKid ms m.items r.0 = is_kid ms k m r.0 at r.1 in
          let is = there ms r.0.instance.module_id.name r.0.place kid.place in
          let o : Own ms m s r.0 = own_child ms m s r.0 is.0 kid is.1 in
          traced_through ms m s js r.0 g o
          (traced n ms o.tree o.scope (child_joined js r.0.instance) r.0.place g o.there r.2)
    ]

-- ---- from a path to an instance's joined names, or there are as many instances as levels

-- no port is connected twice
abbrev pub ConnectedOnce : List (ModuleOf ℕ) → Type 0
ConnectedOnce ms = (m : ModuleOf ℕ) (i : InstanceOf ℕ) → Contains ms m → Contains m.items (InstanceItem i) → twice_connected i.ports ≡ []

-- the instance of module m in which the name `inner` has this port
pub record Joined (ms : List (ModuleOf ℕ)) (gs : List hierarchy.Scope) (m : ModuleOf ℕ) (inner : Name) (port : Option ℕ) : Type 0 where
  pub scope : hierarchy.Scope
  pub listed : Contains gs scope
  pub there : slice_get ms scope.place ≡ Some m
  pub value : value_of scope.joined inner ≡ port

abbrev Reached : ℕ → List (ModuleOf ℕ) → ℕ → List (Named ℕ) → Name → ModuleOf ℕ → Name → Type 0
Reached n ms k js outer m inner =
    Joined ms (scopes n (outlines_of ms) js k) m inner (value_of js outer) ⊎ (n ≤ length (scopes n (outlines_of ms) js k))

reached_through : (n : ℕ) (ms : List (ModuleOf ℕ)) (k : ℕ) (js : List (Named ℕ)) (outer port inner : Name) (m : ModuleOf ℕ) (c : Child)
    → Contains (children_at (outlines_of ms) k) c → value_of (child_joined js c.instance) port ≡ value_of js outer
    → Reached n ms c.place (child_joined js c.instance) port m inner → Reached (suc n) ms k js outer m inner
reached_through n ms k js outer port inner m c listed same (inl j) =
    inl (record {
      scope = j.scope;
      listed =
          subst (λ (gs : List hierarchy.Scope). Contains gs j.scope) (sym (deeper n (outlines_of ms) js k))
          (tail_in (record { place = k; joined = js })
          (flat_map (child_scopes n (outlines_of ms) js) (children_at (outlines_of ms) k)) j.scope
          (in_flat (child_scopes n (outlines_of ms) js) (children_at (outlines_of ms) k) c j.scope listed j.listed));
      there = j.there;
      value = j.value ∙ same;
    })
reached_through n ms k js outer port inner m c listed same (inr many) =
    let long = long_flat (child_scopes n (outlines_of ms) js) (children_at (outlines_of ms) k) c listed in
    let whole : length (scopes (suc n) (outlines_of ms) js k)
    ≡ suc (length (flat_map (child_scopes n (outlines_of ms) js) (children_at (outlines_of ms) k))) =
    ap (λ (gs : List hierarchy.Scope). length gs) (deeper n (outlines_of ms) js k) in
    inr (omega (arith, many, long, whole))

pub reached : (n : ℕ) (ms : List (ModuleOf ℕ)) → Differ (map module_entry ms) → ConnectedOnce ms → (k : ℕ) (n0 : ModuleOf ℕ) (s0 : Scope)
    (js : List (Named ℕ)) (outer : Name) (path : Full) (m : ModuleOf ℕ) (s : Scope) (inner : Name) → slice_get ms k ≡ Some n0
    → Joins ms n0 s0 outer path m s inner → Reached n ms k js outer m inner
reached zero ms differ once k n0 s0 js outer path m s inner at joins = inr (omega arith)
reached (suc n) ms differ once k n0 s0 js outer [] m s inner at (tree, scope, name) =
    inl (record {
      scope = record { place = k; joined = js };
      listed =
          subst (λ (gs : List hierarchy.Scope). Contains gs (record { place = k; joined = js })) (sym (deeper n (outlines_of ms) js k))
          (head_in (record { place = k; joined = js }) (flat_map (child_scopes n (outlines_of ms) js) (children_at (outlines_of ms) k)));
      there = at ∙ ap (λ (x : ModuleOf ℕ). Some x) tree;
      value = ap (value_of js) (sym name);
    })
reached (suc n) ms differ once k n0 s0 js outer (x ∷ path) m s inner at (i, child, below, port, named, is_child, (c, listed, conn), rest) =
    let l : Listed ms k i child = listed_child ms differ k n0 s0 i child below at is_child in
    let stands : Contains n0.items (InstanceItem i) =
    item_in s0.params s0.declared n0.items (record { declared = is_child.declared; item = InstanceItem i }) is_child.stands in
    reached_through n ms k js outer port inner m (record { instance = i; place = l.place }) l.listed
    (joined_as_outer js i c outer port (once n0 i (in_got ms k n0 at) stands) listed conn)
    (reached n ms differ once l.place child below (child_joined js i) port path m s inner l.there rest)
