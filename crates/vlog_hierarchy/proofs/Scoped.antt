-- Instances with their joined names, level by level.
use Rattle.std.proofs.Common.{◌≡◌, ◌≢◌, ℕ, zero, suc, ◌-◌, ◌+◌, ◌<◌, List, [], ◌∷◌, ◌++◌, length, refl, sym, ap, ◌∙◌, arith, append-nil}
use Rattle.std.proofs.Common.{append_assoc}
use Rattle.std.proofs.Common.{slice_get, map, drop, get_or, drop-cons, length-append, Option, None, Some, option_map}
use Rattle.std.specs.List.{flat_map}
use Rattle.std.proofs.lemmas.List.{map-append}
use Rattle.std.proofs.lemmas.Option.{slice_get-map}
use Rattle.vlog_size.specs.Table.{Named}
use Rattle.vlog_tree.specs.Plain.{plain_instance}
use Rattle.vlog_hierarchy.specs.declared.outline.Child as child
use Rattle.vlog_hierarchy.specs.declared.outline.Outline as outline
use Rattle.vlog_hierarchy.specs.Plain.{plain_child, plain_outline, plain_outlines}
use Rattle.vlog_hierarchy.specs.declared.scopes.Scope.{Scope}
use Rattle.vlog_hierarchy.specs.Outlines.{Child, Outline, children_at, children_in}
use Rattle.vlog_hierarchy.specs.Nodes.{Node, nodes, nodes_of, child_nodes}
use Rattle.vlog_hierarchy.proofs.Deeper as nodes_deeper
use Rattle.vlog_hierarchy.specs.Clock.{scopes_of, ports_from, scopes, child_scopes, child_joined, joined_at}
use Rattle.vlog_hierarchy.specs.declared.nodes.TheConstants.{MOST_LEVELS}

pub no_deeper : (os : List Outline) (js : List (Named ℕ)) (k : ℕ) → scopes 0 os js k ≡ []
unfolding scopes
no_deeper os js k = refl

pub deeper : (n : ℕ) (os : List Outline) (js : List (Named ℕ)) (k : ℕ)
    → scopes (suc n) os js k ≡ record { place = k; joined = js } ∷ flat_map (child_scopes n os js) (children_at os k)
unfolding scopes
deeper n os js k = refl

pub one_deeper : (depth : ℕ) (os : List Outline) (js : List (Named ℕ)) (k : ℕ) → depth ≢ 0
    → scopes depth os js k ≡ record { place = k; joined = js } ∷ flat_map (child_scopes (depth - 1) os js) (children_at os k)
one_deeper zero os js k some = absurd (some refl)
one_deeper (suc n) os js k some =
    let e : suc n - 1 ≡ n = omega arith in
    rw e (deeper n os js k)

pub none_added : (ss : List Scope) (depth : ℕ) (os : List Outline) (js : List (Named ℕ)) (k : ℕ) → depth ≡ 0
    → ss ≡ ss ++ scopes depth os js k
none_added ss depth os js k e =
    sym (ap (λ d. ss ++ scopes d os js k) e ∙ ap (λ (xs : List Scope). ss ++ xs) (no_deeper os js k) ∙ append-nil ss)

own_at : (ss : List Scope) (s : Scope) → joined_at (ss ++ s ∷ []) (length ss) ≡ s.joined
own_at [] s = refl
own_at (x ∷ ss) s = own_at ss s

-- what is added behind changes nothing at a place before
pub kept_at : (ss more : List Scope) (k : ℕ) → k < length ss → joined_at (ss ++ more) k ≡ joined_at ss k
kept_at [] more k within = let off : k < 0 = within in absurd (omega arith)
kept_at (x ∷ ss) more zero within = refl
kept_at (x ∷ ss) more (suc k) within = kept_at ss more k (omega arith)

pub none_inside : (ss : List Scope) (go : Child → List Scope) (os : List outline.Outline) (k : ℕ) → slice_get os k ≡ None
    → ss ≡ ss ++ flat_map go (children_at (plain_outlines os) k)
none_inside ss go os k e =
    let none : slice_get (plain_outlines os) k ≡ None = slice_get-map plain_outline os k ∙ ap (option_map plain_outline) e in
    sym (ap (λ (o : Option Outline). ss ++ flat_map go (children_in o)) none ∙ append-nil ss)

pub all_added : (old mid new : List Scope) (cs : List Child) (depth : ℕ) (os : List Outline) (js : List (Named ℕ)) (k own : ℕ) → depth ≢ 0
    → own ≡ length old → mid ≡ old ++ record { place = k; joined = js } ∷ []
    → new ≡ mid ++ flat_map (child_scopes (depth - 1) os (joined_at mid own)) cs
    → cs ≡ children_at os k → new ≡ old ++ scopes depth os js k
all_added old mid new cs depth os js k own some last first rest is =
    let here : Scope = record { place = k; joined = js } in
    let go : List (Named ℕ) → List Scope = λ inner. flat_map (child_scopes (depth - 1) os inner) cs in
    let mine : joined_at mid own ≡ js =
    ap (joined_at mid) last ∙ ap (λ (xs : List Scope). joined_at xs (length old)) first ∙ own_at old here in
    rest ∙ ap (λ inner. mid ++ go inner) mine ∙ ap (λ (xs : List Scope). xs ++ go js) first ∙ append_assoc old (here ∷ []) (go js)
    ∙ ap (λ (xs : List Child). old ++ (here ∷ flat_map (child_scopes (depth - 1) os js) xs)) is
    ∙ sym (ap (λ (xs : List Scope). old ++ xs) (one_deeper depth os js k some))

-- one child's instances are added
pub next_added : (old out new whole : List Scope) (cs : List child.Child) (i : ℕ) (c : child.Child) (inner : List (Named ℕ)) (depth : ℕ)
    (os : List Outline) (k : ℕ) → i < length cs → c ≡ get_or cs i c
    → out ++ flat_map (child_scopes depth os (joined_at old k)) (map plain_child (drop i cs)) ≡ whole
    → joined_at out k ≡ joined_at old k
    → inner ≡ child_joined (joined_at out k) (plain_instance c.instance.now)
    → new ≡ out ++ scopes depth os inner c.place
    → new ++ flat_map (child_scopes depth os (joined_at old k)) (map plain_child (drop (i + 1) cs)) ≡ whole
next_added old out new whole cs i c inner depth os k within is so_far own joins grew =
    let after : suc i ≡ i + 1 = omega arith in
    let split : map plain_child (drop i cs) ≡ plain_child c ∷ map plain_child (drop (i + 1) cs) =
    ap (map plain_child)
    (drop-cons cs i c within ∙ ap (λ (x : child.Child). x ∷ drop (suc i) cs) (sym is) ∙ ap (λ n. c ∷ drop n cs) after) in
    let go : Child → List Scope = child_scopes depth os (joined_at old k) in
    let rest : List Scope = flat_map go (map plain_child (drop (i + 1) cs)) in
    let here : new ≡ out ++ go (plain_child c) =
    grew ∙ ap (λ js. out ++ scopes depth os js c.place) (joins ∙ ap (λ js. child_joined js (plain_instance c.instance.now)) own) in
    ap (λ (xs : List Scope). xs ++ rest) here ∙ append_assoc out (go (plain_child c)) rest
    ∙ sym (ap (λ (xs : List Child). out ++ flat_map go xs) split) ∙ so_far

pub still_at : (old out new more : List Scope) (k : ℕ) → k < length out → joined_at out k ≡ joined_at old k → new ≡ out ++ more
    → joined_at new k ≡ joined_at old k
still_at old out new more k within own grew = ap (λ (xs : List Scope). joined_at xs k) grew ∙ kept_at out more k within ∙ own

pub still_within : (out new more : List Scope) (k : ℕ) → k < length out → new ≡ out ++ more → k < length new
still_within out new more k within grew =
    let long : length new ≡ length out + length more = ap (λ (xs : List Scope). length xs) grew ∙ length-append out more in
    omega (arith, long, within)

-- ---- the same instances as `nodes_of`

abbrev scope_places : List Scope → List ℕ
scope_places ss = map (λ (s : Scope). s.place) ss

abbrev node_places : List Node → List ℕ
node_places ns = map (λ (n : Node). n.place) ns

places_among : (n : ℕ) (os : List Outline) (js : List (Named ℕ)) (path : List (List ℕ)) (cs : List Child)
    → ((c : Child) → scope_places (child_scopes n os js c) ≡ node_places (child_nodes n os path c))
    → scope_places (flat_map (child_scopes n os js) cs) ≡ node_places (flat_map (child_nodes n os path) cs)
places_among n os js path [] each = refl
places_among n os js path (c ∷ cs) each =
    map-append (λ (s : Scope). s.place) (child_scopes n os js c) (flat_map (child_scopes n os js) cs)
    ∙ ap (λ (ks : List ℕ). ks ++ scope_places (flat_map (child_scopes n os js) cs)) (each c)
    ∙ ap (λ (ks : List ℕ). node_places (child_nodes n os path c) ++ ks) (places_among n os js path cs each)
    ∙ sym (map-append (λ (x : Node). x.place) (child_nodes n os path c) (flat_map (child_nodes n os path) cs))

places_below : (n : ℕ) (os : List Outline) (js : List (Named ℕ)) (path : List (List ℕ)) (k : ℕ)
    → scope_places (scopes n os js k) ≡ node_places (nodes n os path k)
places_below zero os js path k = ap scope_places (no_deeper os js k) ∙ sym (ap node_places (nodes_deeper.no_deeper os path k))
places_below (suc n) os js path k =
    ap scope_places (deeper n os js k)
    ∙ ap (λ (ks : List ℕ). k ∷ ks) (places_among n os js path (children_at os k)
    (λ c. places_below n os (child_joined js c.instance) (path ++ c.instance.id.name ∷ []) c.place))
    ∙ sym (ap node_places (nodes_deeper.deeper n os path k))

none_of : (os : List Outline) (inputs : List (List ℕ)) → scope_places (scopes_of os inputs None) ≡ node_places (nodes_of os None)
unfolding scopes_of nodes_of
none_of os inputs = refl

scopes_some : (os : List Outline) (inputs : List (List ℕ)) (top : ℕ)
    → scopes_of os inputs (Some top) ≡ scopes MOST_LEVELS os (ports_from 0 [] inputs) top
unfolding scopes_of
scopes_some os inputs top = refl

nodes_some : (os : List Outline) (top : ℕ) → nodes_of os (Some top) ≡ nodes MOST_LEVELS os [] top
unfolding nodes_of
nodes_some os top = refl

pub same_places : (os : List Outline) (inputs : List (List ℕ)) (top : Option ℕ)
    → scope_places (scopes_of os inputs top) ≡ node_places (nodes_of os top)
same_places os inputs None = none_of os inputs
same_places os inputs (Some top) =
    ap scope_places (scopes_some os inputs top) ∙ places_below MOST_LEVELS os (ports_from 0 [] inputs) [] top
    ∙ sym (ap node_places (nodes_some os top))
