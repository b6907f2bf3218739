-- No two instances have the same path, where the names in each module differ.
use Rattle.std.proofs.Common.{◌≡◌, ◌≢◌, ℕ, zero, suc, inl, inr, List, [], ◌∷◌, ◌++◌, length, sym, ap, subst, ◌∙◌}
use Rattle.std.proofs.Common.{arith, append_assoc, append-nil, length-append, Option, None, Some, slice_get}
use Rattle.std.specs.List.{Contains, All, AllPairs, flat_map}
use Rattle.std.proofs.lemmas.List.Elements.{All-contains, Contains-append_left, Contains-append_right}
use Rattle.std.proofs.lemmas.List.Kept.{AllPairs-cons}
use Rattle.flat_parts.specs.Instances.{HasOtherPath}
use Rattle.vlog_elab.proofs.vidi_bits_lemmas.Lists.{none_in, head_in, tail_in, cases_in, from_flat}
use Rattle.vlog_elab.proofs.Added.{deeper}
use Rattle.vlog_tree.specs.Tree.{InstanceOf, ItemOf, WiresItem, DrivenWiresItem, RegsItem, LocalparamsItem, AssignItem, AlwaysItem}
use Rattle.vlog_tree.specs.Tree.{InstanceItem, ModuleOf}
use Rattle.vlog_elab.specs.vlog_size.declared.scope.Scope.{Scope}
use Rattle.vlog_elab.specs.vlog_size.Table.{Named}
use Rattle.vlog_elab.specs.vlog_names.declared.declaration.Declaration.TheVariants as d
use Rattle.vlog_elab.specs.vlog_names.Entries.{Names, entry, item_entries, header_entries, declared}
use Rattle.vlog_elab.specs.vlog_names.Different.{Differ, OtherName}
use Rattle.vlog_elab.specs.vlog_scope.Scope.{readable_at, after_item, scope_of}
use Rattle.vlog_elab.specs.vlog_size.declared.scope.Param.{Param}
use Rattle.vlog_elab.specs.vlog_size.Names.{Readable}
use Rattle.vlog_elab.specs.vlog_hierarchy.Outlines.{place_of}
use Rattle.vlog_elab.specs.Instances.{ModuleInstance, child_of, child_at, item_children, children_from, children, within}
use Rattle.vlog_driver.specs.Names.{Name, Full}
use Rattle.vlog_driver.specs.Placed.{Placed, placed, placed_items}
use Rattle.flat_parts.proofs.Lists.{each, no_pairs, pairs_append, pairs_first}
use Rattle.flat_parts.proofs.Lists.{pairs_rest, pairs_behind, pairs_between}
use Rattle.flat_parts.proofs.Kids.{Kid, kid_of, instance_at}
use Rattle.flat_parts.proofs.Named.{named_at}
use Rattle.flat_parts.proofs.Within.{Led, led, no_deeper, its_kid}

-- ---- paths below different names

same_front : (path xs ys : Full) → path ++ xs ≡ path ++ ys → xs ≡ ys
same_front [] xs ys e = e
same_front (x ∷ path) xs ys e = let rest : path ++ xs ≡ path ++ ys = cc in same_front path xs ys rest

longer : (path : Full) (x : Name) (xs : Full) → path ≢ path ++ x ∷ xs
longer path x xs e =
    let long : length path ≡ length (path ++ x ∷ xs) = ap (λ (p : Full). length p) e in
    absurd (omega (arith, long, length-append path (x ∷ xs)))

parted : (path : Full) (x y : Name) (xs ys : Full) → x ≢ y → path ++ x ∷ xs ≢ path ++ y ∷ ys
parted path x y xs ys other e =
    let same : x ∷ xs ≡ y ∷ ys = same_front path (x ∷ xs) (y ∷ ys) e in
    let first : x ≡ y = cc in
    other first

-- an instance below the name x in an instance of this path
pub record Below (front : Full) (x : Name) (j : ModuleInstance) : Type 0 where
  pub names : Full
  pub is : j.path ≡ front ++ x ∷ names

below : (n : ℕ) (ms : List (ModuleOf ℕ)) (path : Full) (x : Name) (c j : ModuleInstance) → c.path ≡ path ++ x ∷ []
    → Contains (within n ms c) j → Below path x j
below n ms path x c j is there =
    let l : Led ms c j = led n ms c j there in
    record { names = l.names; is = l.path ∙ ap (λ (p : Full). p ++ l.names) is ∙ append_assoc path (x ∷ []) l.names }

apart : (path : Full) (x y : Name) (a b : ModuleInstance) → x ≢ y → Below path x a → Below path y b → HasOtherPath a b
apart path x y a b other under over e = parted path x y under.names over.names other (sym under.is ∙ e ∙ over.is)

-- ---- the instances that the items of an instance make

single : (x : ModuleInstance) → AllPairs HasOtherPath (x ∷ [])
single x i j d less within = absurd (omega (arith, less, within))

one_of : (path : Full) (r : Readable) (x : InstanceOf ℕ) (k : ℕ) (o : Option (ModuleOf ℕ)) → AllPairs HasOtherPath (child_of path r x k o)
one_of path r x k None = no_pairs HasOtherPath
one_of path r x k (Some m) =
    single (record { path = path ++ x.id.name ∷ []; place = k; tree = m; scope = scope_of r x.parameters m })

one_at : (ms : List (ModuleOf ℕ)) (path : Full) (r : Readable) (x : InstanceOf ℕ) (o : Option ℕ)
    → AllPairs HasOtherPath (child_at ms path r x o)
one_at ms path r x None = no_pairs HasOtherPath
one_at ms path r x (Some k) = one_of path r x k (slice_get ms k)

-- an item is one instance at most
one_item : (ms : List (ModuleOf ℕ)) (path : Full) (r : Readable) (item : ItemOf ℕ) → AllPairs HasOtherPath (item_children ms path r item)
one_item ms path r (WiresItem range names) = no_pairs HasOtherPath
one_item ms path r (DrivenWiresItem range wires) = no_pairs HasOtherPath
one_item ms path r (RegsItem range regs) = no_pairs HasOtherPath
one_item ms path r (LocalparamsItem range parameters) = no_pairs HasOtherPath
one_item ms path r (AssignItem assigns) = no_pairs HasOtherPath
one_item ms path r (AlwaysItem a) = no_pairs HasOtherPath
one_item ms path r (InstanceItem x) = one_at ms path r x (place_of ms x.module_id.name)

-- the entry of an instance's name
named_entry : (items : List (ItemOf ℕ)) (params : List (Named Param)) (k j : ℕ) (x : InstanceOf ℕ)
    → Contains (placed params k items) (instance_at j x)
    → Contains (flat_map item_entries items) (entry x.id.name d.Instance)
named_entry [] params k j x h = absurd (none_in (instance_at j x) h)
named_entry (item ∷ items) params k j x h =
    elim (cases_in (record { declared = k; item = item }) (placed params (after_item params k item) items) (instance_at j x) h) [
      | inl is ↦ Contains-append_left (item_entries item) (flat_map item_entries items) (entry x.id.name d.Instance)
          (subst (λ (y : Placed). Contains (item_entries y.item) (entry x.id.name d.Instance)) (sym is)
          (head_in (entry x.id.name d.Instance) []))
      | inr more ↦ Contains-append_right (item_entries item) (flat_map item_entries items) (entry x.id.name d.Instance)
          (named_entry items params (after_item params k item) j x more)
    ]

own_entry : (ms : List (ModuleOf ℕ)) (path : Full) (s : Scope) (k : ℕ) (items : List (ItemOf ℕ)) (c : ModuleInstance)
    → Contains (children_from ms path s k items) c
    → (x : Name) × Contains (flat_map item_entries items) (entry x d.Instance) × (c.path ≡ path ++ x ∷ [])
own_entry ms path s k items c h =
    let q : Kid ms path s (placed s.params k items) c = kid_of ms path s k items c h in
    (q.instance.id.name, named_entry items s.params k q.declared q.instance q.stands, q.path)

same_last : (path : Full) (x y : Name) (a b : ModuleInstance) → a.path ≡ path ++ x ∷ [] → b.path ≡ path ++ y ∷ [] → x ≢ y → HasOtherPath a b
same_last path x y a b at_x at_y other e = parted path x y [] [] other (sym at_x ∙ (e ∙ at_y))

pub children_apart : (ms : List (ModuleOf ℕ)) (path : Full) (s : Scope) (k : ℕ) (items : List (ItemOf ℕ))
    → Differ (flat_map item_entries items) → AllPairs HasOtherPath (children_from ms path s k items)
children_apart ms path s k [] differ = no_pairs HasOtherPath
children_apart ms path s k (item ∷ items) differ =
    pairs_append HasOtherPath (item_children ms path (readable_at s k) item) (children_from ms path s (after_item s.params k item) items)
    (one_item ms path (readable_at s k) item)
    (children_apart ms path s (after_item s.params k item) items
    (pairs_behind OtherName (item_entries item) (flat_map item_entries items) differ))
    between
  where
    between : (a b : ModuleInstance) → Contains (item_children ms path (readable_at s k) item) a
        → Contains (children_from ms path s (after_item s.params k item) items) b → HasOtherPath a b
    between a b first rest =
        let x = own_entry ms path s k (item ∷ []) a (Contains-append_left (item_children ms path (readable_at s k) item) [] a first) in
        let y = own_entry ms path s (after_item s.params k item) items b rest in
        let own : Contains (item_entries item) (entry x.0 d.Instance) =
        subst (λ (es : Names). Contains es (entry x.0 d.Instance)) (append-nil (item_entries item)) x.1 in
        same_last path x.0 y.0 a b x.2 y.2
        (pairs_between OtherName (item_entries item) (flat_map item_entries items) (entry x.0 d.Instance) (entry y.0 d.Instance) differ
        own y.1)

-- ---- the instances in them

pub spread : (n : ℕ) (ms : List (ModuleOf ℕ)) (path : Full) (cs : List ModuleInstance)
    → ((c : ModuleInstance) → Contains cs c → (x : Name) × (c.path ≡ path ++ x ∷ []))
    → ((c : ModuleInstance) → Contains cs c → AllPairs HasOtherPath (within n ms c))
    → AllPairs HasOtherPath cs → AllPairs HasOtherPath (flat_map (within n ms) cs)
spread n ms path [] last own differ = no_pairs HasOtherPath
spread n ms path (c ∷ cs) last own differ =
    pairs_append HasOtherPath (within n ms c) (flat_map (within n ms) cs) (own c (head_in c cs))
    (spread n ms path cs (λ e h. last e (tail_in c cs e h)) (λ e h. own e (tail_in c cs e h)) (pairs_rest HasOtherPath c cs differ))
    between
  where
    between : (a b : ModuleInstance) → Contains (within n ms c) a → Contains (flat_map (within n ms) cs) b → HasOtherPath a b
    between a b in_c in_rest =
        let r = from_flat (within n ms) cs b in_rest in
        let x = last c (head_in c cs) in
        let y = last r.0 (tail_in c cs r.0 r.1) in
        let other : c.path ≢ r.0.path = All-contains (HasOtherPath c) cs r.0 (pairs_first HasOtherPath c cs differ) r.1 in
        apart path x.0 y.0 a b
        (λ same. other (x.1 ∙ ap (λ (z : Name). path ++ z ∷ []) same ∙ sym y.1))
        (below n ms path x.0 c a x.1 in_c) (below n ms path y.0 r.0 b y.1 r.2)

its_own_apart : (n : ℕ) (ms : List (ModuleOf ℕ)) (i : ModuleInstance) → All (HasOtherPath i) (flat_map (within n ms) (children ms i))
its_own_apart n ms i = each (HasOtherPath i) (flat_map (within n ms) (children ms i)) one
  where
    one : (j : ModuleInstance) → Contains (flat_map (within n ms) (children ms i)) j → HasOtherPath i j
    one j h e =
        let r = from_flat (within n ms) (children ms i) j h in
        let q : Kid ms i.path i.scope (placed_items i.tree i.scope) r.0 = its_kid ms i r.0 r.1 in
        let b : Below i.path q.instance.id.name j = below n ms i.path q.instance.id.name r.0 j q.path r.2 in
        longer i.path q.instance.id.name b.names (e ∙ b.is)

entries_differ : (m : ModuleOf ℕ) → Differ (declared m) → Differ (flat_map item_entries m.items)
unfolding declared
entries_differ m differ = pairs_behind OtherName (header_entries m) (flat_map item_entries m.items) differ

its_children_apart : (ms : List (ModuleOf ℕ)) (i : ModuleInstance) → Differ (declared i.tree) → AllPairs HasOtherPath (children ms i)
unfolding children
its_children_apart ms i differ =
    children_apart ms i.path i.scope i.scope.declared i.tree.items (entries_differ i.tree differ)

last_name : (ms : List (ModuleOf ℕ)) (i c : ModuleInstance) → Contains (children ms i) c → (x : Name) × (c.path ≡ i.path ++ x ∷ [])
last_name ms i c h = let q : Kid ms i.path i.scope (placed_items i.tree i.scope) c = its_kid ms i c h in (q.instance.id.name, q.path)

in_file : (ms : List (ModuleOf ℕ)) (i c : ModuleInstance) → Contains (children ms i) c → Contains ms c.tree
in_file ms i c h =
    let q : Kid ms i.path i.scope (placed_items i.tree i.scope) c = its_kid ms i c h in
    (named_at ms q.instance.module_id.name c.place c.tree q.place q.there).1

pub paths_apart : (n : ℕ) (ms : List (ModuleOf ℕ)) → ((m : ModuleOf ℕ) → Contains ms m → Differ (declared m)) → (i : ModuleInstance)
    → Contains ms i.tree → AllPairs HasOtherPath (within n ms i)
paths_apart zero ms differ i listed = subst (AllPairs HasOtherPath) (sym (no_deeper ms i)) (no_pairs HasOtherPath)
paths_apart (suc n) ms differ i listed =
    subst (AllPairs HasOtherPath) (sym (deeper n ms i))
    (AllPairs-cons HasOtherPath i (flat_map (within n ms) (children ms i)) (its_own_apart n ms i)
    (spread n ms i.path (children ms i) (last_name ms i) (λ c h. paths_apart n ms differ c (in_file ms i c h))
    (its_children_apart ms i (differ i.tree listed))))
