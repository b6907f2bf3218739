-- The top's ports are its first nets, and so the design's.
use Rattle.std.proofs.Common.{◌≡◌, ℕ, zero, suc, Bool, true, false, if◌then◌else◌, List, [], ◌∷◌, ◌++◌, map, get_or, Option, Some, None}
use Rattle.std.proofs.Common.{is_some, length, refl, ap, sym, subst, ◌∙◌, append_assoc, slice_get}
use Rattle.std.specs.List.{AllByRecursion}
use Rattle.std.specs.Str.{bytes_eq}
use Rattle.std.proofs.lemmas.List.{map-append, append-nil}
use Rattle.vlog_elab.proofs.vidi_bits_lemmas.FindingLaws.{told_none}
use Rattle.vlog_elab.proofs.vidi_bits_lemmas.Lists.{nil_left, nil_right}
use Rattle.vlog_elab.proofs.vidi_bits_lemmas.Each.{each_weaker}
use Rattle.vlog_tree.specs.Tree.{IdentOf, NamedValueOf, RegTailOf, InitTail, MemoryTail, Reg1Of, PortOf}
use Rattle.vlog_tree.specs.Tree.{ItemOf, WiresItem, DrivenWiresItem, RegsItem, LocalparamsItem, AssignItem, AlwaysItem, InstanceItem}
use Rattle.vlog_tree.specs.Tree.{ModuleOf}
use Rattle.vlog_elab.specs.vlog_size.declared.scope.ScopeNet.{ScopeNet}
use Rattle.vlog_elab.specs.vlog_size.declared.scope.Scope.{Scope}
use Rattle.vlog_elab.specs.vlog_size.Table.{Named, value_of}
use Rattle.vlog_elab.specs.vlog_names.declared.declaration.Declaration.{Declaration}
use Rattle.vlog_elab.specs.vlog_names.declared.error.NameError.TheVariants as error
use Rattle.vlog_elab.specs.vlog_names.Entries.{Names, entry, parameter_entry, port_as, no_port, port_entries, header_entries}
use Rattle.vlog_elab.specs.vlog_names.Twice.{twice_name, twice_among, twice_items, twice_in}
use Rattle.vlog_elab.specs.vlog_scope.declared.extent.Extent.{Extent}
use Rattle.vlog_elab.specs.vlog_scope.declared.extent.Extent.TheVariants.{NoRange}
use Rattle.vlog_elab.specs.vlog_scope.Extents.{extent_of, port_extent, net_width}
use Rattle.vlog_elab.specs.vlog_scope.Params.{header_params, items_params}
use Rattle.vlog_elab.specs.vlog_scope.Scope.{declared_in, with_net, with_port, with_ports, wire_nets, driven_nets, with_reg, with_regs, with_item}
use Rattle.vlog_elab.specs.vlog_scope.Scope.{with_items, params_scope, scope_with}
use Rattle.net_design.specs.declared.design.Direction.TheVariants.{Input, Output}
use Rattle.net_design.specs.Settled.{same_direction, pins_of}
use Rattle.vlog_driver.specs.Names.{Name}
use Rattle.vlog_driver.specs.Settled.{is_input, input_names}
use Rattle.flat_parts.specs.Nets.{port_of}

abbrev pub names : {V : Type 0} → List (Named V) → List Name
names {V} xs = map (λ (x : Named V). x.name) xs

-- ---- a name that isn't there yet
abbrev has_name : List Name → Name → Bool
has_name [] name = false
has_name (x ∷ xs) name = if bytes_eq name x then true else has_name xs name

some_or : {V : Type 0} (b : Bool) (v : V) (o : Option V) (c : Bool) → is_some o ≡ c
    → is_some (if b then Some v else o) ≡ (if b then true else c)
some_or true v o c h = refl
some_or false v o c h = h

has_value : {V : Type 0} (xs : List (Named V)) (name : Name) → is_some (value_of xs name) ≡ has_name (names xs) name
has_value [] name = refl
has_value (x ∷ xs) name = some_or (bytes_eq name x.name) x.value (value_of xs name) (has_name (names xs) name) (has_value xs name)

not_later : (b c : Bool) → (if b then true else c) ≡ false → c ≡ false
not_later true c h = (cc)
not_later false c h = h

not_behind : (xs ys : List Name) (name : Name) → has_name (xs ++ ys) name ≡ false → has_name ys name ≡ false
not_behind [] ys name h = h
not_behind (x ∷ xs) ys name h = not_behind xs ys name (not_later (bytes_eq name x) (has_name (xs ++ ys) name) h)

-- ---- nets are added at the end
added_last : (b : Bool) (ns : List (Named ScopeNet)) (n : Named ScopeNet) → b ≡ false
    → names (if b then ns else ns ++ n ∷ []) ≡ names ns ++ n.name ∷ []
added_last true ns n h = (cc)
added_last false ns n h = map-append (λ (x : Named ScopeNet). x.name) ns (n ∷ [])

net_last : (x : Extent) (ns : List (Named ScopeNet)) (name : Name) → is_some (value_of ns name) ≡ false
    → names (with_net x ns name) ≡ names ns ++ name ∷ []
net_last x ns name h = added_last (is_some (value_of ns name)) ns (record { name = name; value = record { width = net_width x } }) h

-- the second list's names begin with the first's
abbrev IsMore : List (Named ScopeNet) → List (Named ScopeNet) → Type 0
IsMore ns ms = (rest : List Name) × (names ms ≡ names ns ++ rest)

same_more : (ns : List (Named ScopeNet)) → IsMore ns ns
same_more ns = ([], sym (append-nil (names ns)))

more_more : (ns ms ks : List (Named ScopeNet)) → IsMore ns ms → IsMore ms ks → IsMore ns ks
more_more ns ms ks h g = (h.0 ++ g.0, g.1 ∙ ap (λ xs. xs ++ g.0) h.1 ∙ append_assoc (names ns) h.0 g.0)

added_more : (b : Bool) (ns : List (Named ScopeNet)) (n : Named ScopeNet) → IsMore ns (if b then ns else ns ++ n ∷ [])
added_more true ns n = same_more ns
added_more false ns n = (n.name ∷ [], map-append (λ (x : Named ScopeNet). x.name) ns (n ∷ []))

net_more : (x : Extent) (ns : List (Named ScopeNet)) (name : Name) → IsMore ns (with_net x ns name)
net_more x ns name = added_more (is_some (value_of ns name)) ns (record { name = name; value = record { width = net_width x } })

wires_more : (x : Extent) (ns : List (Named ScopeNet)) (ids : List (IdentOf ℕ)) → IsMore ns (wire_nets x ns ids)
wires_more x ns [] = same_more ns
wires_more x ns (id ∷ ids) =
    more_more ns (with_net x ns id.name) (wire_nets x ns (id ∷ ids)) (net_more x ns id.name) (wires_more x (with_net x ns id.name) ids)

driven_more : (x : Extent) (ns : List (Named ScopeNet)) (ws : List (NamedValueOf ℕ)) → IsMore ns (driven_nets x ns ws)
driven_more x ns [] = same_more ns
driven_more x ns (w ∷ ws) =
    more_more ns (with_net x ns w.id.name) (driven_nets x ns (w ∷ ws)) (net_more x ns w.id.name)
    (driven_more x (with_net x ns w.id.name) ws)

reg_more : (x : Extent) (s : Scope) (name : Name) (tail : Option (RegTailOf ℕ)) → IsMore s.nets (with_reg x s name tail).nets
reg_more x s name None = net_more x s.nets name
reg_more x s name (Some (InitTail e)) = net_more x s.nets name
reg_more x s name (Some (MemoryTail range)) = same_more s.nets

regs_more : (x : Extent) (s : Scope) (gs : List (Reg1Of ℕ)) → IsMore s.nets (with_regs x s gs).nets
regs_more x s [] = same_more s.nets
regs_more x s (g ∷ gs) =
    more_more s.nets (with_reg x s g.id.name g.tail).nets (with_regs x s (g ∷ gs)).nets (reg_more x s g.id.name g.tail)
    (regs_more x (with_reg x s g.id.name g.tail) gs)

item_more : (s : Scope) (i : ItemOf ℕ) → IsMore s.nets (with_item s i).nets
item_more s (WiresItem range ids) = wires_more (extent_of (declared_in s) range) s.nets ids
item_more s (DrivenWiresItem range ws) = driven_more (extent_of (declared_in s) range) s.nets ws
item_more s (RegsItem range gs) = regs_more (extent_of (declared_in s) range) s gs
item_more s (LocalparamsItem range vs) = same_more s.nets
item_more s (AssignItem assigns) = same_more s.nets
item_more s (AlwaysItem a) = same_more s.nets
item_more s (InstanceItem i) = same_more s.nets

items_more : (s : Scope) (is : List (ItemOf ℕ)) → IsMore s.nets (with_items s is).nets
items_more s [] = same_more s.nets
items_more s (i ∷ is) =
    more_more s.nets (with_item s i).nets (with_items s (i ∷ is)).nets (item_more s i) (items_more (with_item s i) is)

-- ---- the ports come first
ports_next : (before : Names) (front : List Name) (x : Extent) (s : Scope) (was : Declaration) (ps : List (PortOf ℕ))
    → names before ≡ front ++ names s.nets → twice_among before (port_entries was ps) ≡ []
    → names (with_ports x s ps).nets ≡ names s.nets ++ names (port_entries was ps)
ports_next before front x s was [] is none = sym (append-nil (names s.nets))
ports_next before front x s was (p ∷ ps) is none =
    let one : Named Declaration = entry p.id.name (port_as was p.head) in
    let y : Extent = port_extent (declared_in s) x p.head in
    let t : Scope = with_port y s p.id.name in
    let others = twice_among (before ++ one ∷ []) (port_entries (port_as was p.head) ps) in
    let absent : is_some (value_of before p.id.name) ≡ false =
    told_none (is_some (value_of before p.id.name)) (error.Twice p.id.name) (nil_left (twice_name before p.id.name) others none) in
    let fresh : is_some (value_of s.nets p.id.name) ≡ false =
    has_value s.nets p.id.name
    ∙ not_behind front (names s.nets) p.id.name
    (sym (ap (λ ns. has_name ns p.id.name) is) ∙ sym (has_value before p.id.name) ∙ absent) in
    let last : names t.nets ≡ names s.nets ++ p.id.name ∷ [] = net_last y s.nets p.id.name fresh in
    let now : names (before ++ one ∷ []) ≡ front ++ names t.nets =
    map-append (λ (d : Named Declaration). d.name) before (one ∷ [])
    ∙ ap (λ ns. ns ++ p.id.name ∷ []) is ∙ append_assoc front (names s.nets) (p.id.name ∷ []) ∙ ap (λ ns. front ++ ns) (sym last) in
    ports_next (before ++ one ∷ []) front y t (port_as was p.head) ps now (nil_right (twice_name before p.id.name) others none)
    ∙ ap (λ ns. ns ++ names (port_entries (port_as was p.head) ps)) last
    ∙ append_assoc (names s.nets) (p.id.name ∷ []) (names (port_entries (port_as was p.head) ps))

twice_past : (before xs ys : Names) → twice_among before (xs ++ ys) ≡ [] → twice_among (before ++ xs) ys ≡ []
twice_past before [] ys h = subst (λ zs. twice_among zs ys ≡ []) (sym (append-nil before)) h
twice_past before (x ∷ xs) ys h =
    subst (λ zs. twice_among zs ys ≡ []) (append_assoc before (x ∷ []) xs)
    (twice_past (before ++ x ∷ []) xs ys (nil_right (twice_name before x.name) (twice_among (before ++ x ∷ []) (xs ++ ys)) h))

-- the names of the nets are those of the ports, and others
pub ports_first : (m : ModuleOf ℕ) → twice_in m ≡ []
    → (rest : List Name) × (names (scope_with [] m).nets ≡ names (port_entries no_port m.ports) ++ rest)
unfolding twice_in
ports_first m once =
    let header = header_params [] NoRange [] m.parameters in
    let bare : Scope = params_scope (length header) (items_params header m.items) in
    let ports : Scope = with_ports NoRange bare m.ports in
    let parameters : Names = map parameter_entry m.parameters in
    let entries : Names = port_entries no_port m.ports in
    let none : twice_among parameters entries ≡ [] =
    twice_past [] parameters entries (nil_left (twice_among [] (header_entries m)) (twice_items (header_entries m) m.items) once) in
    let first : names ports.nets ≡ names entries =
    ports_next parameters (names parameters) NoRange bare no_port m.ports (sym (append-nil (names parameters))) none in
    let more = items_more ports m.items in
    (more.0, more.1 ∙ ap (λ ns. ns ++ more.0) first)

-- ---- what the ports have
module _ (f : Name → ℕ) where
  pin_or : (b : Bool) (x : Name) (xs : List ℕ) (ys : List Name) → xs ≡ map f ys
      → (if same_direction Input (if b then Input else Output) then f x ∷ xs else xs) ≡ map f (if b then x ∷ ys else ys)
  pin_or true x xs ys h = ap (λ zs. f x ∷ zs) h
  pin_or false x xs ys h = h

  -- the numbers of the input ports are those of the inputs
  pub pins_are : (s : Scope) (es : Names) (tail : List ℕ)
      → pins_of Input (map (port_of s) es) (map f (names es) ++ tail) ≡ map f (input_names es)
  pins_are s [] tail = refl
  pins_are s (e ∷ es) tail =
      pin_or (is_input e.value) e.name (pins_of Input (map (port_of s) es) (map f (names es) ++ tail)) (input_names es)
      (pins_are s es tail)

  some_is : (x y : Name) → Some x ≡ Some y → x ≡ y
  some_is x y h = (cc)

  pub port_number : (ns : List Name) (tail : List ℕ) (k : ℕ) (x : Name) → slice_get ns k ≡ Some x → get_or (map f ns ++ tail) k 0 ≡ f x
  port_number [] tail k x h = (cc)
  port_number (n ∷ ns) tail zero x h = ap f (some_is n x h)
  port_number (n ∷ ns) tail (suc k) x h = port_number ns tail k x h

-- each input is a port
abbrev IsPlaced : List Name → Name → Type 0
IsPlaced ns x = (k : ℕ) × (slice_get ns k ≡ Some x)

module _ (n : Name) (ns : List Name) where
  later_each : (xs : List Name) → AllByRecursion (IsPlaced ns) xs → AllByRecursion (IsPlaced (n ∷ ns)) xs
  later_each xs h = each_weaker (IsPlaced ns) (IsPlaced (n ∷ ns)) (λ x p. (suc p.0, p.1)) xs h

  placed_or : (b : Bool) (xs : List Name) → AllByRecursion (IsPlaced ns) xs → AllByRecursion (IsPlaced (n ∷ ns)) (if b then n ∷ xs else xs)
  placed_or true xs h = ((zero, refl), later_each xs h)
  placed_or false xs h = later_each xs h

pub inputs_placed : (es : Names) → AllByRecursion (λ x. (k : ℕ) × (slice_get (names es) k ≡ Some x)) (input_names es)
inputs_placed [] = tt
inputs_placed (e ∷ es) = placed_or e.name (names es) (is_input e.value) (input_names es) (inputs_placed es)
