-- Answers of too many instances or nets.
use Rattle.std.proofs.Common.{◌≡◌, ◌≢◌, ℕ, suc, ◌+◌, ◌-◌, ◌<◌, ◌≤◌, List, [], ◌∷◌, ◌++◌, map, drop, length, get_or, sym, ap}
use Rattle.std.proofs.Common.{◌∙◌, arith}
use Rattle.std.proofs.Common.{length-append, drop-cons}
use Rattle.std.specs.List.{flat_map}
use Rattle.vlog_hierarchy.specs.declared.error.HierarchyError.{HierarchyError}
use Rattle.vlog_hierarchy.specs.declared.error.HierarchyError.TheVariants as error
use Rattle.vlog_hierarchy.specs.declared.error.HierarchyLimit.TheVariants.{Instances, Nets}
use Rattle.vlog_hierarchy.specs.declared.outline.Child as child
use Rattle.vlog_hierarchy.specs.declared.nodes.Node as node
use Rattle.vlog_hierarchy.specs.Outlines.{Child, Outline, children_at}
use Rattle.vlog_hierarchy.specs.Plain.{plain_child, plain_node, plain_nodes}
use Rattle.vlog_hierarchy.specs.Nodes.{Node, nodes, child_nodes, IsTooMany}
use Rattle.vlog_hierarchy.proofs.Deeper.{one_deeper}
use Rattle.std.proofs.lemmas.List.{length-map}

pub many_more : (e : HierarchyError) (a b : ℕ) → a ≤ b → IsTooMany e a → IsTooMany e b
many_more (error.TooBig Instances) a b le h = omega (arith, le, h)
many_more (error.TooBig Nets) a b le h = absurd h
many_more (error.Clock line) a b le h = absurd h
many_more error.Memory a b le h = tt

pub many_here : (e : HierarchyError) (n depth : ℕ) (os : List Outline) (path : List (List ℕ)) (k : ℕ) → depth ≢ 0
    → IsTooMany e (n + 1) → IsTooMany e (n + length (nodes depth os path k))
many_here e n depth os path k some h =
    let l : length (nodes depth os path k) ≡ suc (length (flat_map (child_nodes (depth - 1) os path) (children_at os k))) =
    ap (λ (xs : List Node). length xs) (one_deeper depth os path k some) in
    many_more e (n + 1) (n + length (nodes depth os path k)) (omega (arith, l)) h

-- in the instances of a module
pub many_in : (e : HierarchyError) (old new : List node.Node) (depth : ℕ) (os : List Outline) (path : List (List ℕ)) (k : ℕ)
    (cs : List Child)
    → depth ≢ 0
    → plain_nodes new ≡ plain_nodes old ++ record { path = path; place = k } ∷ [] → cs ≡ children_at os k
    → IsTooMany e (length new + length (flat_map (child_nodes (depth - 1) os path) cs))
    → IsTooMany e (length old + length (nodes depth os path k))
many_in e old new depth os path k cs some grew is h =
    let l : length (nodes depth os path k) ≡ suc (length (flat_map (child_nodes (depth - 1) os path) cs)) =
    ap (λ (xs : List Node). length xs) (one_deeper depth os path k some)
    ∙ ap (λ (xs : List Child). suc (length (flat_map (child_nodes (depth - 1) os path) xs))) (sym is) in
    let one : length (plain_nodes new) ≡ length (plain_nodes old) + 1 =
    ap (λ (xs : List Node). length xs) grew ∙ length-append (plain_nodes old) (record { path = path; place = k } ∷ []) in
    many_more e (length new + length (flat_map (child_nodes (depth - 1) os path) cs)) (length old + length (nodes depth os path k))
    (omega (arith, l, one, length-map old plain_node, length-map new plain_node)) h

-- in a loop over instances
pub many_among : (e : HierarchyError) (before out : List node.Node) (depth : ℕ) (os : List Outline) (path : List (List ℕ))
    (cs : List child.Child) (i : ℕ) (c : child.Child) (inner : List (List ℕ))
    → i < length cs → c ≡ get_or cs i c
    → plain_nodes out ++ flat_map (child_nodes depth os path) (map plain_child (drop i cs))
    ≡ plain_nodes before ++ flat_map (child_nodes depth os path) (map plain_child cs)
    → inner ≡ path ++ c.instance.now.id.name ∷ []
    → IsTooMany e (length out + length (nodes depth os inner c.place))
    → IsTooMany e (length before + length (flat_map (child_nodes depth os path) (map plain_child cs)))
many_among e before out depth os path cs i c inner within at same is h =
    let go : Child → List Node = child_nodes depth os path in
    let split : drop i cs ≡ c ∷ drop (suc i) cs =
    drop-cons cs i c within ∙ ap (λ (x : child.Child). x ∷ drop (suc i) cs) (sym at) in
    let rest : List Node = flat_map go (map plain_child (drop (suc i) cs)) in
    let cut : flat_map go (map plain_child (drop i cs)) ≡ nodes depth os (path ++ c.instance.now.id.name ∷ []) c.place ++ rest =
    ap (λ (xs : List child.Child). flat_map go (map plain_child xs)) split in
    let here : length (nodes depth os inner c.place) ≡ length (nodes depth os (path ++ c.instance.now.id.name ∷ []) c.place) =
    ap (λ (p : List (List ℕ)). length (nodes depth os p c.place)) is in
    let a : length (flat_map go (map plain_child (drop i cs)))
    ≡ length (nodes depth os (path ++ c.instance.now.id.name ∷ []) c.place) + length rest =
    ap (λ (xs : List Node). length xs) cut ∙ length-append (nodes depth os (path ++ c.instance.now.id.name ∷ []) c.place) rest in
    let b : length (plain_nodes out) + length (flat_map go (map plain_child (drop i cs)))
    ≡ length (plain_nodes before) + length (flat_map go (map plain_child cs)) =
    sym (length-append (plain_nodes out) (flat_map go (map plain_child (drop i cs)))) ∙ ap (λ (xs : List Node). length xs) same
    ∙ length-append (plain_nodes before) (flat_map go (map plain_child cs)) in
    many_more e (length out + length (nodes depth os inner c.place)) (length before + length (flat_map go (map plain_child cs)))
    (omega (arith, a, b, here, length-map out plain_node, length-map before plain_node)) h
