-- Instances are added one by one.
use Rattle.std.proofs.Common.{◌≡◌, ◌≢◌, ℕ, zero, suc, ◌+◌, ◌-◌, ◌<◌, ◌≤◌, ◌⊎◌, inl, inr, List, [], ◌∷◌, ◌++◌, map, drop, length, get_or}
use Rattle.std.proofs.Common.{refl, sym, ap, subst, ◌∙◌, arith, drop-cons, append_assoc, append-nil, length-append}
use Rattle.std.proofs.Common.{Option, None, Some, slice_get, option_map}
use Rattle.std.specs.List.{flat_map}
use Rattle.std.proofs.lemmas.Grind.{flat_map-append}
use Rattle.std.proofs.lemmas.List.{length-map, drop_all}
use Rattle.std.proofs.lemmas.Option.{slice_get-map}
use Rattle.vlog_tree.specs.Tree.{InstanceOf, ItemOf, WiresItem, DrivenWiresItem, RegsItem, LocalparamsItem, AssignItem, AlwaysItem}
use Rattle.vlog_tree.specs.Tree.{InstanceItem, ModuleOf}
use Rattle.vlog_tree.specs.declared.module.Item.{Item}
use Rattle.vlog_tree.specs.Plain.{plain_item}
use Rattle.vlog_hierarchy.specs.vlog_size.Names.{Readable}
use Rattle.vlog_scope.specs.Scope.{readable_at}
use Rattle.vlog_hierarchy.specs.Outlines.{place_of}
use Rattle.vlog_elab.specs.Instances.{ModuleInstance, child_of, child_at, item_children, children, within, top_of, top_at}
use Rattle.vlog_elab.specs.declared.instance.ModuleInstance as code
use Rattle.vlog_elab.specs.Plain.{plain_instance, plain_instances}
use Rattle.vlog_elab.specs.Inside.{one_child, children_past, children_at, declared_past}
use Rattle.vlog_hierarchy.specs.declared.nodes.TheConstants.{MOST_INSTANCES, MOST_LEVELS}

-- ---- lists

slice_get_left : (xs ys : List ModuleInstance) (k : ℕ) → k < length xs → slice_get (xs ++ ys) k ≡ slice_get xs k
slice_get_left [] ys k l = absurd (omega (arith, l))
slice_get_left (x ∷ xs) ys zero l = refl
slice_get_left (x ∷ xs) ys (suc k) l = slice_get_left xs ys k (omega (arith, l))

slice_get_next : (xs ys : List ModuleInstance) → slice_get (xs ++ ys) (length xs) ≡ slice_get ys 0
slice_get_next [] ys = refl
slice_get_next (x ∷ xs) ys = slice_get_next xs ys

-- ---- an item is one instance at most

abbrev AtMostOne : List ModuleInstance → Type 0
AtMostOne xs = (xs ≡ []) ⊎ ((c : ModuleInstance) × (xs ≡ c ∷ []))

one_of : (path : List (List ℕ)) (r : Readable) (x : InstanceOf ℕ) (k : ℕ) (o : Option (ModuleOf ℕ)) → AtMostOne (child_of path r x k o)
one_of path r x k None = inl refl
one_of path r x k (Some m) = inr (_, refl)

one_at : (ms : List (ModuleOf ℕ)) (path : List (List ℕ)) (r : Readable) (x : InstanceOf ℕ) (o : Option ℕ)
    → AtMostOne (child_at ms path r x o)
one_at ms path r x None = inl refl
one_at ms path r x (Some k) = one_of path r x k (slice_get ms k)

one_item : (ms : List (ModuleOf ℕ)) (path : List (List ℕ)) (r : Readable) (item : ItemOf ℕ) → AtMostOne (item_children ms path r item)
one_item ms path r (WiresItem range names) = inl refl
one_item ms path r (DrivenWiresItem range wires) = inl refl
one_item ms path r (RegsItem range regs) = inl refl
one_item ms path r (LocalparamsItem range parameters) = inl refl
one_item ms path r (AssignItem assigns) = inl refl
one_item ms path r (AlwaysItem a) = inl refl
one_item ms path r (InstanceItem x) = one_at ms path r x (place_of ms x.module_id.name)

at_most_one : (ms : List (ModuleOf ℕ)) (o : Option ModuleInstance) (k : ℕ) (item : ItemOf ℕ) → AtMostOne (one_child ms o k item)
at_most_one ms None k item = inl refl
at_most_one ms (Some i) k item = one_item ms i.path (readable_at i.scope k) item

-- ---- levels

no_deeper : (ms : List (ModuleOf ℕ)) (cs : List ModuleInstance) → flat_map (within 0 ms) cs ≡ []
unfolding within
no_deeper ms [] = refl
no_deeper ms (c ∷ cs) = no_deeper ms cs

pub none_added : (xs : List ModuleInstance) (depth : ℕ) (ms : List (ModuleOf ℕ)) (cs : List ModuleInstance) → depth ≡ 0
    → xs ≡ xs ++ flat_map (within depth ms) cs
none_added xs depth ms cs e =
    sym (ap (λ d. xs ++ flat_map (within d ms) cs) e ∙ ap (λ (ys : List ModuleInstance). xs ++ ys) (no_deeper ms cs) ∙ append-nil xs)

pub deeper : (n : ℕ) (ms : List (ModuleOf ℕ)) (i : ModuleInstance) → within (suc n) ms i ≡ i ∷ flat_map (within n ms) (children ms i)
unfolding within
deeper n ms i = refl

pub one_deeper : (depth : ℕ) (ms : List (ModuleOf ℕ)) (i : ModuleInstance) → depth ≢ 0
    → within depth ms i ≡ i ∷ flat_map (within (depth - 1) ms) (children ms i)
one_deeper zero ms i some = absurd (some refl)
one_deeper (suc n) ms i some = let e : suc n - 1 ≡ n = omega arith in rw e (deeper n ms i)

-- the instance that was added and all those in it
one_inside : (xs one : List ModuleInstance) (depth : ℕ) (ms : List (ModuleOf ℕ)) → depth ≢ 0 → AtMostOne one
    → (xs ++ one) ++ flat_map (within (depth - 1) ms) (children_at ms (slice_get (xs ++ one) (length xs)))
    ≡ xs ++ flat_map (within depth ms) one
one_inside xs one depth ms some (inl none) =
    subst
    (λ (ys : List ModuleInstance). (xs ++ ys) ++ flat_map (within (depth - 1) ms) (children_at ms (slice_get (xs ++ ys) (length xs)))
    ≡ xs ++ flat_map (within depth ms) ys)
    (sym none)
    (ap (λ (o : Option ModuleInstance). (xs ++ []) ++ flat_map (within (depth - 1) ms) (children_at ms o)) (slice_get_next xs [])
    ∙ append-nil (xs ++ []))
one_inside xs one depth ms some (inr (c, is)) =
    subst
    (λ (ys : List ModuleInstance). (xs ++ ys) ++ flat_map (within (depth - 1) ms) (children_at ms (slice_get (xs ++ ys) (length xs)))
    ≡ xs ++ flat_map (within depth ms) ys)
    (sym is)
    (ap (λ (o : Option ModuleInstance). (xs ++ c ∷ []) ++ flat_map (within (depth - 1) ms) (children_at ms o)) (slice_get_next xs (c ∷ []))
    ∙ (append_assoc xs (c ∷ []) (flat_map (within (depth - 1) ms) (children ms c))
    ∙ ap (λ (ys : List ModuleInstance). xs ++ ys) (sym (one_deeper depth ms c some) ∙ sym (append-nil (within depth ms c)))))

-- ---- the loop over the items

past : (ms : List (ModuleOf ℕ)) (o : Option ModuleInstance) (k : ℕ) (item : ItemOf ℕ) (items : List (ItemOf ℕ))
    → children_past ms o k (item ∷ items) ≡ one_child ms o k item ++ children_past ms o (declared_past o k item) items
past ms None k item items = refl
past ms (Some i) k item items = refl

split_at : (items : List Item) (i : ℕ) (item : Item) → i < length items → item ≡ get_or items i item
    → map plain_item (drop i items) ≡ plain_item item ∷ map plain_item (drop (i + 1) items)
split_at items i item within at =
    let after : suc i ≡ i + 1 = omega arith in
    ap (map plain_item)
    (drop-cons items i item within ∙ ap (λ (x : Item). x ∷ drop (suc i) items) (sym at) ∙ ap (λ k. item ∷ drop k items) after)

-- where the invariant stands before an item
pub record Before (ms : List (ModuleOf ℕ)) (depth at : ℕ) (first xs whole : List ModuleInstance) (k : ℕ)
    (items : List (ItemOf ℕ)) : Type 0 where
  pub place : slice_get xs at ≡ slice_get first at
  pub there : at < length xs
  pub value : xs ++ flat_map (within depth ms) (children_past ms (slice_get first at) k items) ≡ whole

pub next_inside : (ms : List (ModuleOf ℕ)) (depth at : ℕ) (first xs mid new whole : List ModuleInstance) (k next : ℕ)
    (items : List Item) (i : ℕ)
    (item : Item) → depth ≢ 0 → i < length items → item ≡ get_or items i item
    → Before ms depth at first xs whole k (map plain_item (drop i items))
    → mid ≡ xs ++ one_child ms (slice_get xs at) k (plain_item item)
    → new ≡ mid ++ flat_map (within (depth - 1) ms) (children_at ms (slice_get mid (length xs)))
    → next ≡ declared_past (slice_get new at) k (plain_item item)
    → Before ms depth at first new whole next (map plain_item (drop (i + 1) items))
next_inside ms depth at first xs mid new whole k next items i item some within' is before grew filled counted =
    let o : Option ModuleInstance = slice_get first at in
    let one : List ModuleInstance = one_child ms o k (plain_item item) in
    let rest : List (ItemOf ℕ) = map plain_item (drop (i + 1) items) in
    let m : mid ≡ xs ++ one = grew ∙ ap (λ (x : Option ModuleInstance). xs ++ one_child ms x k (plain_item item)) before.place in
    let n : new ≡ xs ++ flat_map (within depth ms) one =
    filled
    ∙ (ap (λ (ys : List ModuleInstance). ys ++ flat_map (within (depth - 1) ms) (children_at ms (slice_get ys (length xs)))) m
    ∙ one_inside xs one depth ms some (at_most_one ms o k (plain_item item))) in
    let place : slice_get new at ≡ o =
    ap (λ (ys : List ModuleInstance). slice_get ys at) n
    ∙ (slice_get_left xs (flat_map (within depth ms) one) at before.there ∙ before.place) in
    let c : next ≡ declared_past o k (plain_item item) =
    counted ∙ ap (λ (x : Option ModuleInstance). declared_past x k (plain_item item)) place in
    let long : length new ≡ length xs + length (flat_map (within depth ms) one) =
    ap (λ (ys : List ModuleInstance). length ys) n ∙ length-append xs (flat_map (within depth ms) one) in
    record {
      place = place;
      there = let l = before.there in omega (arith, l, long);
      value =
          ap (λ (ys : List ModuleInstance). ys ++ flat_map (within depth ms) (children_past ms o next rest)) n
          ∙ (ap (λ j. (xs ++ flat_map (within depth ms) one) ++ flat_map (within depth ms) (children_past ms o j rest)) c
          ∙ (append_assoc xs (flat_map (within depth ms) one)
          (flat_map (within depth ms) (children_past ms o (declared_past o k (plain_item item)) rest))
          ∙ (ap (λ (ys : List ModuleInstance). xs ++ ys)
          (sym (flat_map-append (within depth ms) one (children_past ms o (declared_past o k (plain_item item)) rest))
          ∙ ap (flat_map (within depth ms))
          (sym (past ms o k (plain_item item) rest) ∙ sym (ap (children_past ms o k) (split_at items i item within' is))))
          ∙ before.value)));
    }

pub first_inside : (ms : List (ModuleOf ℕ)) (depth at : ℕ) (out : List code.ModuleInstance) (k : ℕ) (items : List (ItemOf ℕ))
    → at < length out
    → Before ms depth at (plain_instances out) (plain_instances out)
    (plain_instances out ++ flat_map (within depth ms) (children_past ms (slice_get (plain_instances out) at) k items)) k items
first_inside ms depth at out k items there = record {
  place = refl;
  there = omega (arith, there, length-map out plain_instance);
  value = refl;
}

nothing_past : (ms : List (ModuleOf ℕ)) (o : Option ModuleInstance) (k : ℕ) → children_past ms o k [] ≡ []
nothing_past ms None k = refl
nothing_past ms (Some i) k = refl

pub all_inside : (ms : List (ModuleOf ℕ)) (depth at : ℕ) (first xs whole : List ModuleInstance) (k : ℕ) (items : List Item) (i : ℕ)
    → length items ≤ i → Before ms depth at first xs whole k (map plain_item (drop i items)) → xs ≡ whole
all_inside ms depth at first xs whole k items i past' before =
    sym (append-nil xs)
    ∙ (ap (λ (ys : List ModuleInstance). xs ++ flat_map (within depth ms) ys)
    (sym (nothing_past ms (slice_get first at) k)
    ∙ ap (λ (ys : List Item). children_past ms (slice_get first at) k (map plain_item ys)) (sym (drop_all i items past')))
    ∙ before.value)

-- ---- the instance at a place of the list

at_place : (out : List code.ModuleInstance) (at : ℕ) (o : Option code.ModuleInstance) → o ≡ slice_get out at
    → slice_get (plain_instances out) at ≡ option_map plain_instance o
at_place out at o h = slice_get-map plain_instance out at ∙ ap (option_map plain_instance) (sym h)

pub none_inside : (ms : List (ModuleOf ℕ)) (depth at : ℕ) (out : List code.ModuleInstance) → None ≡ slice_get out at
    → plain_instances out ≡ plain_instances out ++ flat_map (within depth ms) (children_at ms (slice_get (plain_instances out) at))
none_inside ms depth at out h =
    sym (ap (λ (o : Option ModuleInstance). plain_instances out ++ flat_map (within depth ms) (children_at ms o)) (at_place out at None h)
    ∙ append-nil (plain_instances out))

pub no_child : (ms : List (ModuleOf ℕ)) (at : ℕ) (out : List code.ModuleInstance) (k : ℕ) (item : ItemOf ℕ) → None ≡ slice_get out at
    → plain_instances out ≡ plain_instances out ++ one_child ms (slice_get (plain_instances out) at) k item
no_child ms at out k item h =
    sym (ap (λ (o : Option ModuleInstance). plain_instances out ++ one_child ms o k item) (at_place out at None h)
    ∙ append-nil (plain_instances out))

pub child_here : (ms : List (ModuleOf ℕ)) (at : ℕ) (out : List code.ModuleInstance) (p : code.ModuleInstance) (k : ℕ) (item : ItemOf ℕ)
    (new children : List ModuleInstance) → Some p ≡ slice_get out at → new ≡ plain_instances out ++ children
    → children ≡ one_child ms (Some (plain_instance p)) k item
    → new ≡ plain_instances out ++ one_child ms (slice_get (plain_instances out) at) k item
child_here ms at out p k item new children there grew is =
    grew ∙ ap (λ (xs : List ModuleInstance). plain_instances out ++ xs)
    (is ∙ sym (ap (λ (o : Option ModuleInstance). one_child ms o k item) (at_place out at (Some p) there)))

children_here : (ms : List (ModuleOf ℕ)) (i : ModuleInstance)
    → children_past ms (Some i) i.scope.declared i.tree.items ≡ children_at ms (Some i)
unfolding children
children_here ms i = refl

pub inside_here : (ms : List (ModuleOf ℕ)) (depth at : ℕ) (out new : List code.ModuleInstance) (p : code.ModuleInstance) (items : List Item)
    → Some p ≡ slice_get out at → items ≡ p.tree.now.items
    → plain_instances new ≡ plain_instances out ++ flat_map (within depth ms)
    (children_past ms (slice_get (plain_instances out) at) p.scope.declared (map plain_item items))
    → plain_instances new ≡ plain_instances out ++ flat_map (within depth ms) (children_at ms (slice_get (plain_instances out) at))
inside_here ms depth at out new p items there is grew =
    let e : slice_get (plain_instances out) at ≡ Some (plain_instance p) = at_place out at (Some p) there in
    grew ∙ ap (λ (cs : List ModuleInstance). plain_instances out ++ flat_map (within depth ms) cs)
    (ap (λ (xs : List Item). children_past ms (slice_get (plain_instances out) at) p.scope.declared (map plain_item xs)) is
    ∙ (ap (λ (o : Option ModuleInstance). children_past ms o p.scope.declared (map plain_item p.tree.now.items)) e
    ∙ (children_here ms (plain_instance p) ∙ sym (ap (children_at ms) e))))

-- ---- the top

one_top : (k : ℕ) (o : Option (ModuleOf ℕ)) → AtMostOne (top_of k o)
one_top k None = inl refl
one_top k (Some m) = inr (_, refl)

at_most_top : (ms : List (ModuleOf ℕ)) (o : Option ℕ) → AtMostOne (top_at ms o)
at_most_top ms None = inl refl
at_most_top ms (Some k) = one_top k (slice_get ms k)

pub all_below : (ms : List (ModuleOf ℕ)) (o : Option ℕ) (mid new : List ModuleInstance) → mid ≡ top_at ms o
    → new ≡ mid ++ flat_map (within MOST_INSTANCES ms) (children_at ms (slice_get mid 0)) → new ≡ flat_map (within MOST_LEVELS ms) (top_at ms o)
all_below ms o mid new is filled =
    let some : MOST_LEVELS ≢ 0 = λ e. omega (arith, e) in
    filled
    ∙ (ap (λ (ys : List ModuleInstance). ys ++ flat_map (within MOST_INSTANCES ms) (children_at ms (slice_get ys 0))) is
    ∙ one_inside [] (top_at ms o) MOST_LEVELS ms some (at_most_top ms o))
