-- The places of the modules of instances are places of modules of the file.
use Rattle.std.proofs.Common.{◌≡◌, ℕ, zero, suc, ◌+◌, ◌<◌, ◌⊎◌, inl, inr, Bool, true, false, if◌then◌else◌, List, [], ◌∷◌}
use Rattle.std.proofs.Common.{map, length}
use Rattle.std.proofs.Common.{get_or, refl, sym, ap, subst, ◌∙◌, arith, Option, Some, None, slice_get, option_map}
use Rattle.std.specs.List.{Contains, flat_map}
use Rattle.std.specs.Str.{bytes_eq}
use Rattle.std.proofs.lemmas.List.{map-append, length-map}
use Rattle.std.proofs.lemmas.List.Elements.{Contains-append_cases}
use Rattle.std.proofs.lemmas.Option.{slice_get-map, slice_get_read}
use Rattle.vlog_size.proofs.vidi_bits_lemmas.Lists.{none_in}
use Rattle.vlog_tree.specs.Tree.{InstanceOf, ItemOf, WiresItem, DrivenWiresItem, RegsItem, LocalparamsItem, AssignItem, AlwaysItem}
use Rattle.vlog_tree.specs.Tree.{InstanceItem}
use Rattle.vlog_tree.specs.Tree.{ModuleOf}
use Rattle.vlog_hierarchy.specs.declared.outline.Child as child
use Rattle.vlog_hierarchy.specs.declared.outline.Outline as outline
use Rattle.vlog_hierarchy.specs.Outlines.{Child, Outline, place_from, place_of, child_at, item_children, children_of, outline_of}
use Rattle.vlog_hierarchy.specs.Outlines.{outlines_of}
use Rattle.vlog_hierarchy.specs.Outlines.{children_in}
use Rattle.vlog_hierarchy.specs.Plain.{plain_child, plain_outline, plain_outlines}
use Rattle.vlog_hierarchy.specs.Nested.{kids}
use Rattle.vlog_hierarchy.specs.Reach.{child_places, AreBelow, IsClosed}

abbrev places : List Child → List ℕ
places cs = map (λ (c : Child). c.place) cs

pub place_below : (f : ℕ) (ms : List (ModuleOf ℕ)) (name : List ℕ) (k : ℕ) → place_from f ms name ≡ Some k → k < f + length ms
place_below f [] name k e = let off : None ≡ Some k = e in absurd (cc)
place_below f (m ∷ ms) name k e = one (bytes_eq name m.name) e (λ r. let l = place_below (f + 1) ms name k r in omega (arith, l))
  where
    one : (b : Bool) → (if b then Some f else place_from (f + 1) ms name) ≡ Some k
        → (place_from (f + 1) ms name ≡ Some k → k < f + length (m ∷ ms)) → k < f + length (m ∷ ms)
    one true h more = let is : f ≡ k = cc in omega (arith, is)
    one false h more = more h

pub top_below : (ms : List (ModuleOf ℕ)) (name : List ℕ) (k : ℕ) → place_of ms name ≡ Some k → k < length ms
top_below ms name k e = let l = place_below 0 ms name k e in omega (arith, l)

pub long_outlines : (ms : List (ModuleOf ℕ)) → length (outlines_of ms) ≡ length ms
unfolding outlines_of
long_outlines ms = length-map ms (outline_of ms)

child_below : (n : ℕ) (i : InstanceOf ℕ) (o : Option ℕ) → ((k : ℕ) → o ≡ Some k → k < n) → AreBelow n (places (child_at i o))
child_below n i None h k c = absurd (none_in k c)
child_below n i (Some p) h k (zero, l, e) = subst (λ x. x < n) e (h p refl)
child_below n i (Some p) h k (suc j, l, e) = absurd (omega arith)

item_below : (ms : List (ModuleOf ℕ)) (item : ItemOf ℕ) → AreBelow (length ms) (places (item_children ms item))
item_below ms (WiresItem range names) k c = absurd (none_in k c)
item_below ms (DrivenWiresItem range wires) k c = absurd (none_in k c)
item_below ms (RegsItem range regs) k c = absurd (none_in k c)
item_below ms (LocalparamsItem range parameters) k c = absurd (none_in k c)
item_below ms (AssignItem assigns) k c = absurd (none_in k c)
item_below ms (AlwaysItem a) k c = absurd (none_in k c)
item_below ms (InstanceItem i) k c = child_below (length ms) i (place_of ms i.module_id.name) (top_below ms i.module_id.name) k c

items_below : (ms : List (ModuleOf ℕ)) (items : List (ItemOf ℕ)) → AreBelow (length ms) (places (flat_map (item_children ms) items))
items_below ms [] k c = absurd (none_in k c)
items_below ms (item ∷ items) k c =
    one (Contains-append_cases (places (item_children ms item)) (places (flat_map (item_children ms) items)) k
    (subst (λ (xs : List ℕ). Contains xs k)
    (map-append (λ (x : Child). x.place) (item_children ms item) (flat_map (item_children ms) items)) c))
    (λ r. items_below ms items k r)
  where
    one : Contains (places (item_children ms item)) k ⊎ Contains (places (flat_map (item_children ms) items)) k
        → (Contains (places (flat_map (item_children ms) items)) k → k < length ms) → k < length ms
    one (inl l) more = item_below ms item k l
    one (inr r) more = more r

kids_closed : (ms : List (ModuleOf ℕ)) (o : Option (ModuleOf ℕ))
    → AreBelow (length ms) (places (children_in (option_map (outline_of ms) o)))
unfolding children_of
kids_closed ms None k c = absurd (none_in k c)
kids_closed ms (Some m) k c = items_below ms m.items k c

pub outlines_closed : (ms : List (ModuleOf ℕ)) → IsClosed (outlines_of ms)
unfolding outlines_of
outlines_closed ms a k c =
    let l : k < length ms =
    kids_closed ms (slice_get ms a) k
    (subst (λ (o : Option Outline). Contains (places (children_in o)) k) (slice_get-map (outline_of ms) ms a) c) in
    omega (arith, l, length-map ms (outline_of ms))

-- ---- an outline of the code

same_places : (cs : List child.Child) → child_places cs ≡ places (map plain_child cs)
same_places [] = refl
same_places (c ∷ cs) = ap (λ (xs : List ℕ). c.place ∷ xs) (same_places cs)

pub kids_here : (os : List outline.Outline) (i : ℕ) (o : outline.Outline) → i < length os → o ≡ get_or os i o
    → child_places o.children ≡ kids (plain_outlines os) i
kids_here os i o within at =
    same_places o.children
    ∙ sym (ap (λ (x : Option Outline). places (children_in x))
    (slice_get-map plain_outline os i ∙ ap (option_map plain_outline) (slice_get_read os (length os) i o refl within at)))

pub visit_same : (os : List outline.Outline) (i : ℕ) (o : outline.Outline) (cs : List child.Child) → i < length os → o ≡ get_or os i o
    → cs ≡ o.children → child_places cs ≡ kids (plain_outlines os) i
visit_same os i o cs within at is = ap child_places is ∙ kids_here os i o within at

pub visit_below : (os : List outline.Outline) (marks : List Bool) (i : ℕ) (o : outline.Outline) (cs : List child.Child)
    → IsClosed (plain_outlines os) → length marks ≡ length os → i < length os → o ≡ get_or os i o → cs ≡ o.children
    → AreBelow (length marks) (child_places cs)
visit_below os marks i o cs closed long within at is k h =
    let l : k < length (plain_outlines os) =
    closed i k (subst (λ (xs : List ℕ). Contains xs k) (visit_same os i o cs within at is) h) in
    omega (arith, l, long, length-map os plain_outline)
