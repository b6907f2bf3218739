-- Where no reason holds, the one clock is the input to which the first clocked block is joined.
use Rattle.std.proofs.Common.{◌≡◌, ℕ, ◌≤◌, ◌⊎◌, inl, inr, List, [], ◌∷◌, ◌++◌, map, length, refl, sym, ap, subst}
use Rattle.std.proofs.Common.{◌∙◌, arith, Option, None, Some, slice_get, Bool, true, not, ◌==◌}
use Rattle.std.specs.List.{Contains, flat_map}
use Rattle.std.proofs.lemmas.List.{length-map}
use Rattle.std.proofs.lemmas.Bool.{not-false}
use Rattle.flat_parts.proofs.vidi_bits_lemmas.FindingLaws.{told_none}
use Rattle.flat_parts.proofs.vidi_bits_lemmas.Lists.{none_in, cases_in, from_flat, nil_left, nil_right, none_mapped}
use Rattle.vlog_tree.specs.Tree.{IdentOf, EventOf, PosedgeEvent, ImplicitEvent, AlwaysOf, InstanceOf, ItemOf, WiresItem, DrivenWiresItem}
use Rattle.vlog_tree.specs.Tree.{RegsItem, LocalparamsItem, AssignItem, AlwaysItem, InstanceItem, ModuleOf, FileOf}
use Rattle.flat_parts.specs.vlog_size.Table.{Named, value_of}
use Rattle.flat_parts.specs.vlog_size.declared.scope.Scope.{Scope}
use Rattle.flat_parts.specs.vlog_elab.Scope.{scope_with}
use Rattle.flat_parts.specs.vlog_names.Entries.{Names, item_entries, header_entries, module_entry}
use Rattle.flat_parts.specs.vlog_names.Twice.{twice_name, twice_among, twice_connected, twice_item, twice_items, twice_in, twice_modules, twice_names}
use Rattle.flat_parts.specs.vlog_hierarchy.declared.error.HierarchyError.TheVariants as error
use Rattle.flat_parts.specs.vlog_hierarchy.declared.scopes.Scope as hierarchy
use Rattle.flat_parts.specs.vlog_hierarchy.Outlines.{Outline, place_of, outlines_of}
use Rattle.flat_parts.specs.vlog_hierarchy.Nodes.{Node, nodes_of}
use Rattle.flat_parts.specs.vlog_hierarchy.Clock.{scopes, scopes_of, ports_from, items_in, items_at, event_ports, item_ports, scope_ports, clock_ports}
use Rattle.flat_parts.specs.vlog_hierarchy.Clock.{first_port, same_port, clock_marks, event_faults, body_faults, item_faults, scope_faults}
use Rattle.flat_parts.specs.vlog_hierarchy.Clock.{clock_faults}
use Rattle.flat_parts.proofs.vlog_hierarchy_lemmas.Scoped.{same_places}
use Rattle.flat_parts.specs.vlog_elab.Errors.{of_hierarchy}
use Rattle.flat_parts.specs.vlog_elab.Instances.{ModuleInstance, instances, node_of}
use Rattle.flat_parts.specs.vlog_elab.Clock.{clock_inputs}
use Rattle.flat_parts.specs.vlog_elab.Reasons.{Clear, hierarchy_findings, instance_findings, clock_findings, late_findings, size_findings}
use Rattle.flat_parts.proofs.vlog_elab_lemmas.Same.{same_nodes}
use Rattle.flat_parts.specs.vlog_driver.Names.{Name, Full}
use Rattle.flat_parts.specs.vlog_driver.Settled.{inputs_of, Joins, Waits, IsClock}
use Rattle.flat_parts.specs.Laws.{IsTop}
use Rattle.flat_parts.proofs.Lists.{in_got}
use Rattle.flat_parts.proofs.Found.{no_twice, modules_apart, few}
use Rattle.flat_parts.proofs.Listed.{first_is_top}
use Rattle.flat_clock.specs.Clock.{joined_input, name_at, clock_name, ClockIsInput}
use Rattle.flat_clock.proofs.Tables.{input_at}
use Rattle.flat_clock.proofs.Children.{stands, item_in}
use Rattle.flat_clock.proofs.Traces.{ConnectedOnce, Traced, traced, Joined, reached}
use Rattle.flat_clock.proofs.Inputs.{one_bit_inputs_are}
use Rattle.flat_parts.specs.vlog_hierarchy.declared.nodes.TheConstants.{MOST_INSTANCES, MOST_LEVELS}

-- ---- no port is connected twice

once_item : (before : Names) (i : InstanceOf ℕ) → twice_item before (InstanceItem i) ≡ [] → twice_connected i.ports ≡ []
once_item before i e = nil_right (twice_name before i.id.name) (twice_connected i.ports) (nil_right (twice_connected i.parameters) _ e)

once_items : (before : Names) (items : List (ItemOf ℕ)) (i : InstanceOf ℕ) → twice_items before items ≡ [] → Contains items (InstanceItem i)
    → twice_connected i.ports ≡ []
once_items before [] i none h = absurd (none_in (InstanceItem i) h)
once_items before (x ∷ items) i none h =
    elim (cases_in x items (InstanceItem i) h) [
      | inl is ↦ once_item before i (subst (λ (y : ItemOf ℕ). twice_item before y ≡ []) is (nil_left (twice_item before x) _ none))
      | inr more ↦ once_items (before ++ item_entries x) items i (nil_right (twice_item before x) _ none) more
    ]

once_module : (m : ModuleOf ℕ) (i : InstanceOf ℕ) → twice_in m ≡ [] → Contains m.items (InstanceItem i) → twice_connected i.ports ≡ []
unfolding twice_in
once_module m i none h = once_items (header_entries m) m.items i (nil_right (twice_among [] (header_entries m)) _ none) h

once_modules : (before : List (Named Names)) (ms : List (ModuleOf ℕ)) → twice_modules before ms ≡ [] → ConnectedOnce ms
once_modules before [] none m i listed h = absurd (none_in m listed)
once_modules before (x ∷ ms) none m i listed h =
    let rest : twice_in x ++ twice_modules (before ++ module_entry x ∷ []) ms ≡ [] = nil_right (twice_name before x.name) _ none in
    elim (cases_in x ms m listed) [
      | inl is ↦ once_module m i (subst (λ (y : ModuleOf ℕ). twice_in y ≡ []) is (nil_left (twice_in x) _ rest)) h
      | inr more ↦ once_modules (before ++ module_entry x ∷ []) ms (nil_right (twice_in x) _ rest) m i more h
    ]

once_file : (file : FileOf ℕ) → twice_names file ≡ [] → ConnectedOnce file.modules
unfolding twice_names
once_file file none = once_modules [] file.modules none

pub connected_once : (file : FileOf ℕ) (name : List ℕ) → Clear file name → ConnectedOnce file.modules
connected_once file name clear = once_file file (no_twice file name clear)

-- ---- E13 finds nothing

none_flat : {X A : Type 0} → (f : X → List A) (xs : List X) (x : X) → flat_map f xs ≡ [] → Contains xs x → f x ≡ []
none_flat f [] x none h = absurd (none_in x h)
none_flat f (y ∷ ys) x none h =
    elim (cases_in y ys x h) [
      | inl is ↦ subst (λ z. f z ≡ []) is (nil_left (f y) (flat_map f ys) none)
      | inr more ↦ none_flat f ys x (nil_right (f y) (flat_map f ys) none) more
    ]

abbrev inputs_in : FileOf ℕ → List ℕ → List Name
inputs_in file name = clock_inputs (instances file name)

abbrev scopes_in : FileOf ℕ → List ℕ → List hierarchy.Scope
scopes_in file name = scopes_of (outlines_of file.modules) (inputs_in file name) (place_of file.modules name)

abbrev ports_in : FileOf ℕ → List ℕ → List (Option ℕ)
ports_in file name = clock_ports file.modules (scopes_in file name)

no_clock_faults : (file : FileOf ℕ) (name : List ℕ) → Clear file name
    → clock_faults file.modules (length (inputs_in file name)) (scopes_in file name) ≡ []
unfolding size_findings late_findings clock_findings
no_clock_faults file name clear =
    let is : List ModuleInstance = instances file name in
    none_mapped of_hierarchy (clock_faults file.modules (length (inputs_in file name)) (scopes_in file name))
    (nil_right (instance_findings is) (clock_findings file name is)
    (nil_right (hierarchy_findings file name) (late_findings file name is) clear.1.1))

one_scope : (ms : List (ModuleOf ℕ)) (n : ℕ) (ss : List hierarchy.Scope) (g : hierarchy.Scope) → clock_faults ms n ss ≡ [] → Contains ss g
    → scope_faults ms (first_port (clock_ports ms ss)) (clock_marks n (clock_ports ms ss)) g ≡ []
unfolding clock_faults
one_scope ms n ss g none h =
    none_flat (scope_faults ms (first_port (clock_ports ms ss)) (clock_marks n (clock_ports ms ss))) ss g none h

one_item : (ms : List (ModuleOf ℕ)) (wanted : Option ℕ) (marks : List Bool) (g : hierarchy.Scope) (item : ItemOf ℕ)
    → scope_faults ms wanted marks g ≡ [] → Contains (items_at ms g.place) item → item_faults wanted marks g.joined item ≡ []
unfolding scope_faults
one_item ms wanted marks g item none h = none_flat (item_faults wanted marks g.joined) (items_at ms g.place) item none h

-- both are the same port
pub record Same (a b : Option ℕ) : Type 0 where
  pub port : ℕ
  pub first : a ≡ Some port
  pub second : b ≡ Some port

equal : (p q : ℕ) → (p == q) ≡ true → p ≡ q
equal p q e = grind (arith, e)

same_ports : (a b : Option ℕ) → same_port a b ≡ true → Same a b
same_ports None b e = absurd (cc)
same_ports (Some p) None e = absurd (cc)
same_ports (Some p) (Some q) e =
    let is : p ≡ q = equal p q e in
    record { port = p; first = refl; second = ap (λ (x : ℕ). Some x) (sym is) }

wanted_event : (wanted : Option ℕ) (marks : List Bool) (js : List (Named ℕ)) (a : AlwaysOf ℕ) (id : IdentOf ℕ)
    → item_faults wanted marks js (AlwaysItem a) ≡ [] → a.event ≡ PosedgeEvent id → Same wanted (value_of js id.name)
wanted_event wanted marks js a id none is =
    let at : event_faults wanted js a.line (PosedgeEvent id) ≡ [] =
    subst (λ (e : EventOf ℕ). event_faults wanted js a.line e ≡ []) is
    (nil_left (event_faults wanted js a.line a.event) (body_faults marks js a.body) none) in
    same_ports wanted (value_of js id.name)
    (not-false (same_port wanted (value_of js id.name)) (told_none (not (same_port wanted (value_of js id.name))) (error.Clock a.line) at))

-- each clocked block's name is joined to the port of the first
pub waited : (file : FileOf ℕ) (name : List ℕ) (g : hierarchy.Scope) (a : AlwaysOf ℕ) (id : IdentOf ℕ) → Clear file name
    → Contains (scopes_in file name) g → Contains (items_at file.modules g.place) (AlwaysItem a) → a.event ≡ PosedgeEvent id
    → Same (first_port (ports_in file name)) (value_of g.joined id.name)
waited file name g a id clear listed stands is =
    let wanted = first_port (ports_in file name) in
    let marks = clock_marks (length (inputs_in file name)) (ports_in file name) in
    wanted_event wanted marks g.joined a id
    (one_item file.modules wanted marks g (AlwaysItem a)
    (one_scope file.modules (length (inputs_in file name)) (scopes_in file name) g (no_clock_faults file name clear) listed) stands) is

-- ---- the instances with joined names

scopes_some : (os : List Outline) (inputs : List Name) (k : ℕ) → scopes_of os inputs (Some k) ≡ scopes MOST_LEVELS os (ports_from 0 [] inputs) k
unfolding scopes_of
scopes_some os inputs k = refl

pub all_scopes : (file : FileOf ℕ) (name : List ℕ) (k : ℕ) → place_of file.modules name ≡ Some k
    → scopes_in file name ≡ scopes MOST_LEVELS (outlines_of file.modules) (ports_from 0 [] (inputs_in file name)) k
all_scopes file name k found =
    ap (scopes_of (outlines_of file.modules) (inputs_in file name)) found ∙ scopes_some (outlines_of file.modules) (inputs_in file name) k

few_scopes : (file : FileOf ℕ) (name : List ℕ) → Clear file name → length (scopes_in file name) ≤ MOST_INSTANCES
few_scopes file name clear =
    let places : List hierarchy.Scope → List ℕ = λ ss. map (λ (s : hierarchy.Scope). s.place) ss in
    let ns : List Node = nodes_of (outlines_of file.modules) (place_of file.modules name) in
    let as_nodes : length (map (λ (s : hierarchy.Scope). s.place) (scopes_in file name)) ≡ length (map (λ (n : Node). n.place) ns) =
    ap (λ (ks : List ℕ). length ks) (same_places (outlines_of file.modules) (inputs_in file name) (place_of file.modules name)) in
    let as_instances : length (map node_of (instances file name)) ≡ length ns = ap (λ (xs : List Node). length xs) (same_nodes file name) in
    let small = few file name clear in
    omega (
      arith,
      as_nodes,
      as_instances,
      small,
      length-map (scopes_in file name) (λ (s : hierarchy.Scope). s.place),
      length-map ns (λ (n : Node). n.place),
      length-map (instances file name) node_of,
    )

its_items : (ms : List (ModuleOf ℕ)) (k : ℕ) (m : ModuleOf ℕ) → slice_get ms k ≡ Some m → items_at ms k ≡ m.items
its_items ms k m at = ap items_in at

-- ---- from the clock to the input

input_of_clock : (file : FileOf ℕ) (name : List ℕ) (top : ModuleOf ℕ) → Clear file name → IsTop file name top → (x : Name)
    → IsClock file.modules top x → clock_name file name (inputs_in file name) ≡ Some x
input_of_clock file name top clear (k, found, at) x (is_input, (path, m, s, inner, joins, waits)) =
    there (reached MOST_LEVELS file.modules (modules_apart file name clear) (connected_once file name clear) k top (scope_with [] top)
    (ports_from 0 [] (inputs_in file name)) x path m s inner at joins)
  where
    all : scopes_in file name ≡ scopes MOST_LEVELS (outlines_of file.modules) (ports_from 0 [] (inputs_in file name)) k
    all = all_scopes file name k found

    by_port : (port : Option ℕ) → Same (first_port (ports_in file name)) port → port ≡ value_of (ports_from 0 [] (inputs_in file name)) x
        → clock_name file name (inputs_in file name) ≡ Some x
    by_port port same is =
        ap (name_at (inputs_in file name)) same.first
        ∙ input_at (inputs_in file name) x same.port (sym is ∙ same.second)

    in_scope : (g : Joined file.modules (scopes_in file name) m inner (value_of (ports_from 0 [] (inputs_in file name)) x))
        → Waits m s inner → clock_name file name (inputs_in file name) ≡ Some x
    in_scope g (p, listed, a, id, is_always, event, named) =
        let item : Contains m.items (AlwaysItem a) =
        subst (λ (y : ItemOf ℕ). Contains m.items y) is_always (item_in s.params s.declared m.items p listed) in
        let same : Same (first_port (ports_in file name)) (value_of g.scope.joined id.name) =
        waited file name g.scope a id clear g.listed
        (subst (λ (ys : List (ItemOf ℕ)). Contains ys (AlwaysItem a)) (sym (its_items file.modules g.scope.place m g.there)) item) event in
        by_port (value_of g.scope.joined id.name) same (ap (value_of g.scope.joined) named ∙ g.value)

    there : Joined file.modules (scopes MOST_LEVELS (outlines_of file.modules) (ports_from 0 [] (inputs_in file name)) k) m inner
        (value_of (ports_from 0 [] (inputs_in file name)) x)
        ⊎ (MOST_LEVELS ≤ length (scopes MOST_LEVELS (outlines_of file.modules) (ports_from 0 [] (inputs_in file name)) k))
        → clock_name file name (inputs_in file name) ≡ Some x
    there (inl g) =
        in_scope
        (subst (λ (ss : List hierarchy.Scope). Joined file.modules ss m inner (value_of (ports_from 0 [] (inputs_in file name)) x))
        (sym all) g)
        waits
    there (inr many) =
        let small = few_scopes file name clear in
        let long : length (scopes_in file name)
        ≡ length (scopes MOST_LEVELS (outlines_of file.modules) (ports_from 0 [] (inputs_in file name)) k) =
        ap (λ (ss : List hierarchy.Scope). length ss) all in
        absurd (omega (arith, small, long, many))

-- ---- from the input to the clock

-- a clocked block whose name is joined to this port
pub record Block (items : List (ItemOf ℕ)) (js : List (Named ℕ)) (p : ℕ) : Type 0 where
  pub block : AlwaysOf ℕ
  pub clock : IdentOf ℕ
  pub listed : Contains items (AlwaysItem block)
  pub event : block.event ≡ PosedgeEvent clock
  pub joined : value_of js clock.name ≡ Some p

event_block : (items : List (ItemOf ℕ)) (js : List (Named ℕ)) (p : ℕ) (a : AlwaysOf ℕ) (event : EventOf ℕ) → a.event ≡ event
    → Contains items (AlwaysItem a) → Contains (event_ports js event) (Some p) → Block items js p
event_block items js p a (PosedgeEvent id) is listed h = one (cases_in (value_of js id.name) [] (Some p) h)
  where
    one : (value_of js id.name ≡ Some p) ⊎ Contains [] (Some p) → Block items js p
    one (inl same) = record { block = a; clock = id; listed = listed; event = is; joined = same }
    one (inr off) = absurd (none_in (Some p) off)
event_block items js p a (ImplicitEvent parens) is listed h = absurd (none_in (Some p) h)

item_block : (items : List (ItemOf ℕ)) (js : List (Named ℕ)) (p : ℕ) (item : ItemOf ℕ) → Contains items item
    → Contains (item_ports js item) (Some p) → Block items js p
item_block items js p (WiresItem range names) listed h = absurd (none_in (Some p) h)
item_block items js p (DrivenWiresItem range wires) listed h = absurd (none_in (Some p) h)
item_block items js p (RegsItem range regs) listed h = absurd (none_in (Some p) h)
item_block items js p (LocalparamsItem range params) listed h = absurd (none_in (Some p) h)
item_block items js p (AssignItem assigns) listed h = absurd (none_in (Some p) h)
item_block items js p (AlwaysItem a) listed h = event_block items js p a a.event refl listed h
item_block items js p (InstanceItem i) listed h = absurd (none_in (Some p) h)

scope_block : (ms : List (ModuleOf ℕ)) (g : hierarchy.Scope) (p : ℕ) → Contains (scope_ports ms g) (Some p)
    → Block (items_at ms g.place) g.joined p
unfolding scope_ports
scope_block ms g p h =
    let r = from_flat (item_ports g.joined) (items_at ms g.place) (Some p) h in
    item_block (items_at ms g.place) g.joined p r.0 r.1 r.2

first_listed : (ports : List (Option ℕ)) (p : ℕ) → first_port ports ≡ Some p → Contains ports (Some p)
first_listed [] p e = absurd (cc)
first_listed (o ∷ ports) p e = (0, omega arith, e)

clocked_scope : (ms : List (ModuleOf ℕ)) (ss : List hierarchy.Scope) (p : ℕ) → first_port (clock_ports ms ss) ≡ Some p
    → (g : hierarchy.Scope) × Contains ss g × Contains (scope_ports ms g) (Some p)
unfolding clock_ports
clocked_scope ms ss p e = from_flat (scope_ports ms) ss (Some p) (first_listed (flat_map (scope_ports ms) ss) p e)

its_inputs : (file : FileOf ℕ) (name : List ℕ) (top : ModuleOf ℕ) → Clear file name → IsTop file name top → (x : Name)
    → Contains (inputs_in file name) x → Contains (inputs_of top) x
its_inputs file name top clear is_top x h =
    let r = first_is_top file name top clear is_top in
    one_bit_inputs_are (scope_with [] top).nets top x (subst (λ (is : List ModuleInstance). Contains (clock_inputs is) x) r.2 h)

waits_there : (m : ModuleOf ℕ) (s : Scope) (js : List (Named ℕ)) (p : ℕ) (b : Block m.items js p) → Waits m s b.clock.name
waits_there m s js p b =
    let at = stands s.params s.declared m.items (AlwaysItem b.block) b.listed in
    (record { declared = at.0; item = AlwaysItem b.block }, at.1, b.block, b.clock, refl, b.event, refl)

clock_of_input : (file : FileOf ℕ) (name : List ℕ) (top : ModuleOf ℕ) → Clear file name → IsTop file name top → (x : Name) (p : ℕ)
    → joined_input file name (inputs_in file name) ≡ Some p → slice_get (inputs_in file name) p ≡ Some x → IsClock file.modules top x
clock_of_input file name top clear (k, found, at) x p wanted named =
    (its_inputs file name top clear (k, found, at) x (in_got (inputs_in file name) p x named), from)
  where
    r : (g : hierarchy.Scope) × Contains (scopes_in file name) g × Contains (scope_ports file.modules g) (Some p)
    r = clocked_scope file.modules (scopes_in file name) p wanted

    t : Traced file.modules top (scope_with [] top) (ports_from 0 [] (inputs_in file name)) r.0
    t =
        traced MOST_LEVELS file.modules top (scope_with [] top) (ports_from 0 [] (inputs_in file name)) k r.0 at
        (subst (λ (ss : List hierarchy.Scope). Contains ss r.0) (all_scopes file name k found) r.1)

    b : Block t.tree.items r.0.joined p
    b =
        subst (λ (items : List (ItemOf ℕ)). Block items r.0.joined p) (its_items file.modules r.0.place t.tree t.there)
        (scope_block file.modules r.0 p r.2)

    joins : Joins file.modules top (scope_with [] top) x t.path t.tree t.scope b.clock.name
    joins =
        let j = t.joins b.clock.name p b.joined in
        let same : Some j.0 ≡ Some x = sym (input_at (inputs_in file name) j.0 p j.1) ∙ named in
        let is : j.0 ≡ x = cc in
        subst (λ (y : Name). Joins file.modules top (scope_with [] top) y t.path t.tree t.scope b.clock.name) is j.2

    from : (path : Full) × (m : ModuleOf ℕ) × (s : Scope) × (inner : Name) × Joins file.modules top (scope_with [] top) x path m s inner
        × Waits m s inner
    from = (t.path, t.tree, t.scope, b.clock.name, joins, waits_there t.tree t.scope r.0.joined p b)

name_there : (names : List Name) (o : Option ℕ) (x : Name) → name_at names o ≡ Some x
    → (p : ℕ) × (o ≡ Some p) × (slice_get names p ≡ Some x)
name_there names None x h = absurd (cc)
name_there names (Some p) x h = (p, refl, h)

pub clock_is_input : ClockIsInput
clock_is_input file name top clear is_top x = (
  (λ h. let r = name_there (inputs_in file name) (joined_input file name (inputs_in file name)) x h in
      clock_of_input file name top clear is_top x r.0 r.1 r.2),
  (λ h. input_of_clock file name top clear is_top x h),
)
