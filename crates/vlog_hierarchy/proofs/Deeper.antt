-- Instances, level by level.
use Rattle.std.proofs.Common.{◌≡◌, ◌≢◌, ℕ, zero, suc, ◌+◌, ◌-◌, ◌<◌, List, [], ◌∷◌, ◌++◌, length, refl, sym, ap, ◌∙◌, arith}
use Rattle.std.proofs.Common.{length-append, append-nil, append_assoc, Option, None, slice_get, option_map}
use Rattle.std.specs.List.{flat_map}
use Rattle.std.proofs.lemmas.Option.{slice_get-map}
use Rattle.vlog_hierarchy.specs.declared.outline.Outline as outline
use Rattle.vlog_hierarchy.specs.Plain.{plain_outline, plain_outlines}
use Rattle.vlog_hierarchy.specs.Outlines.{Child, Outline, children_at, children_in}
use Rattle.vlog_hierarchy.specs.Nodes.{Node, nodes, child_nodes}

pub no_deeper : (os : List Outline) (path : List (List ℕ)) (k : ℕ) → nodes 0 os path k ≡ []
unfolding nodes
no_deeper os path k = refl

pub deeper : (n : ℕ) (os : List Outline) (path : List (List ℕ)) (k : ℕ)
    → nodes (suc n) os path k ≡ record { path = path; place = k } ∷ flat_map (child_nodes n os path) (children_at os k)
unfolding nodes
deeper n os path k = refl

pub one_deeper : (depth : ℕ) (os : List Outline) (path : List (List ℕ)) (k : ℕ) → depth ≢ 0
    → nodes depth os path k ≡ record { path = path; place = k } ∷ flat_map (child_nodes (depth - 1) os path) (children_at os k)
one_deeper zero os path k some = absurd (some refl)
one_deeper (suc n) os path k some =
    let e : suc n - 1 ≡ n = omega arith in
    rw e (deeper n os path k)

pub none_added : (ns : List Node) (depth : ℕ) (os : List Outline) (path : List (List ℕ)) (k : ℕ) → depth ≡ 0
    → ns ≡ ns ++ nodes depth os path k
none_added ns depth os path k e =
    sym (ap (λ d. ns ++ nodes d os path k) e ∙ ap (λ (xs : List Node). ns ++ xs) (no_deeper os path k) ∙ append-nil ns)

pub none_inside : (ns : List Node) (go : Child → List Node) (os : List outline.Outline) (k : ℕ) → slice_get os k ≡ None
    → ns ≡ ns ++ flat_map go (children_at (plain_outlines os) k)
none_inside ns go os k e =
    let none : slice_get (plain_outlines os) k ≡ None = slice_get-map plain_outline os k ∙ ap (option_map plain_outline) e in
    sym (ap (λ (o : Option Outline). ns ++ flat_map go (children_in o)) none ∙ append-nil ns)

pub all_added : (old mid new : List Node) (cs : List Child) (depth : ℕ) (os : List Outline) (path : List (List ℕ)) (k : ℕ) → depth ≢ 0
    → mid ≡ old ++ record { path = path; place = k } ∷ [] → new ≡ mid ++ flat_map (child_nodes (depth - 1) os path) cs
    → cs ≡ children_at os k → new ≡ old ++ nodes depth os path k
all_added old mid new cs depth os path k some first rest is =
    let here : Node = record { path = path; place = k } in
    let go : Child → List Node = child_nodes (depth - 1) os path in
    rest ∙ ap (λ (xs : List Node). xs ++ flat_map go cs) first ∙ append_assoc old (here ∷ []) (flat_map go cs)
    ∙ ap (λ (xs : List Child). old ++ (here ∷ flat_map go xs)) is
    ∙ sym (ap (λ (xs : List Node). old ++ xs) (one_deeper depth os path k some))

-- ---- more levels change nothing where there are fewer instances than levels

same_below : (n m : ℕ) (os : List Outline) (path : List (List ℕ)) (cs : List Child)
    → ((c : Child) → length (child_nodes n os path c) < n → child_nodes (n + m) os path c ≡ child_nodes n os path c)
    → length (flat_map (child_nodes n os path) cs) < n
    → flat_map (child_nodes (n + m) os path) cs ≡ flat_map (child_nodes n os path) cs
same_below n m os path [] each few = refl
same_below n m os path (c ∷ cs) each few =
    let long : length (child_nodes n os path c ++ flat_map (child_nodes n os path) cs)
    ≡ length (child_nodes n os path c) + length (flat_map (child_nodes n os path) cs) =
    length-append (child_nodes n os path c) (flat_map (child_nodes n os path) cs) in
    let here : child_nodes (n + m) os path c ≡ child_nodes n os path c = each c (omega (arith, long, few)) in
    let rest : flat_map (child_nodes (n + m) os path) cs ≡ flat_map (child_nodes n os path) cs =
    same_below n m os path cs each (omega (arith, long, few)) in
    ap (λ (xs : List Node). xs ++ flat_map (child_nodes (n + m) os path) cs) here
    ∙ ap (λ (xs : List Node). child_nodes n os path c ++ xs) rest

pub enough : (n m : ℕ) (os : List Outline) (path : List (List ℕ)) (k : ℕ) → length (nodes n os path k) < n
    → nodes (n + m) os path k ≡ nodes n os path k
enough zero m os path k few = absurd (omega (arith, few))
enough (suc n) m os path k few =
    let grown : suc n + m ≡ suc (n + m) = omega arith in
    let whole : length (nodes (suc n) os path k) ≡ suc (length (flat_map (child_nodes n os path) (children_at os k))) =
    ap (λ (xs : List Node). length xs) (deeper n os path k) in
    let rest : flat_map (child_nodes (n + m) os path) (children_at os k) ≡ flat_map (child_nodes n os path) (children_at os k) =
    same_below n m os path (children_at os k) (λ c. enough n m os (path ++ c.instance.id.name ∷ []) c.place) (omega (arith, whole, few)) in
    ap (λ i. nodes i os path k) grown ∙ deeper (n + m) os path k
    ∙ ap (λ (xs : List Node). record { path = path; place = k } ∷ xs) rest ∙ sym (deeper n os path k)
