-- Where nothing is found, each net and each memory's word has 1 to 128 bits.
use Rattle.std.proofs.Common.{◌≡◌, ℕ, Bool, true, ◌&&◌, List, [], ◌∷◌, ◌++◌, take, length, Option, None, Some, refl, ap, sym, ◌∙◌}
use Rattle.std.specs.List.{list_all, flat_map}
use Rattle.std.proofs.lemmas.Bool.{and_from}
use Rattle.vlog_size.proofs.vidi_bits_lemmas.Bools.{left_of}
use Rattle.vlog_size.proofs.vidi_bits_lemmas.Lists.{nil_left, nil_right}
use Rattle.vlog_tree.specs.Tree.{ConnOf, IdentOf, RangeOf, PortHeadOf, PortOf, NamedValueOf, RegTailOf, InitTail, MemoryTail, Reg1Of}
use Rattle.vlog_tree.specs.Tree.{ItemOf, WiresItem, DrivenWiresItem, RegsItem, LocalparamsItem, AssignItem, AlwaysItem}
use Rattle.vlog_tree.specs.Tree.{InstanceItem, ModuleOf}
use Rattle.vlog_size.specs.declared.scope.Param.{Param}
use Rattle.vlog_size.specs.declared.scope.ScopeNet.{ScopeNet}
use Rattle.vlog_size.specs.declared.scope.ScopeMemory.{ScopeMemory}
use Rattle.vlog_size.specs.declared.scope.Scope.{Scope}
use Rattle.vlog_size.specs.Literal.{is_lawful}
use Rattle.vlog_size.specs.Table.{Named, added}
use Rattle.vlog_size.specs.Names.{Readable, params_alone, are_lawful_params, is_lawful_scope}
use Rattle.vlog_scope.specs.declared.fault.FaultKind.TheVariants.{Constant, Width}
use Rattle.vlog_scope.specs.declared.extent.Extent.{Extent}
use Rattle.vlog_scope.specs.declared.extent.Extent.TheVariants.{NoRange}
use Rattle.vlog_scope.specs.Extents.{extent_of, port_extent, net_width, memory_length, or_most}
use Rattle.vlog_scope.specs.Params.{header_params, items_params, overrides_of}
use Rattle.vlog_scope.specs.Scope.{readable_at, after_item, with_net, with_port, with_ports, wire_nets, driven_nets, with_reg, with_regs}
use Rattle.vlog_scope.specs.Scope.{with_item, with_items, params_scope, scope_of}
use Rattle.vlog_scope.specs.Faults.{range_faults, name_faults, driven_faults, expr_faults, fixed_faults, reg_faults}
use Rattle.vlog_scope.specs.Faults.{tail_faults, item_faults}
use Rattle.vlog_scope.specs.Faults.{items_faults, port_head_faults, port_faults, ports_faults, parameters_faults, override_faults}
use Rattle.vlog_scope.specs.Faults.{scope_faults, const_faults, width_faults}
use Rattle.vlog_scope.proofs.Declared.{grown_same, grown_items}
use Rattle.vlog_scope.proofs.Sound.{is_known, is_named, extent_known, named, lawful_net}
use Rattle.vlog_scope.proofs.LawfulParams.{all_added, lawful_front, same_extent, made_after, lawful_header, lawful_items}

abbrev pub are_nets : List (Named ScopeNet) → Bool
are_nets ns = list_all (λ (n : Named ScopeNet). is_lawful n.value.width) ns

abbrev pub are_memories : List (Named ScopeMemory) → Bool
are_memories ms = list_all (λ (m : Named ScopeMemory). is_lawful m.value.width) ms

-- so far these nets and memories, where the first k parameters are declared
abbrev pub state : List (Named Param) → ℕ → List (Named ScopeNet) → List (Named ScopeMemory) → Scope
state params k ns ms = record { params = params; declared = k; nets = ns; memories = ms }

-- a state of lawful nets and memories
abbrev pub IsPlaced : List (Named Param) → ℕ → Scope → Type 0
IsPlaced params k s = (ns : List (Named ScopeNet)) × (ms : List (Named ScopeMemory)) × (s ≡ state params k ns ms)
    × (are_nets ns ≡ true) × (are_memories ms ≡ true)

net_added : (x : Extent) (ns : List (Named ScopeNet)) (n : List ℕ) → is_named x ≡ true → are_nets ns ≡ true
    → are_nets (with_net x ns n) ≡ true
net_added x ns n h k = all_added (λ (m : Named ScopeNet). is_lawful m.value.width) ns n (record { width = net_width x }) k
    (lawful_net x h)

-- ---- ports
same_port : (s : Scope) (k : ℕ) (before : Extent) (head : Option (PortHeadOf ℕ))
    → port_extent (readable_at s k) before head ≡ port_extent (params_alone (take k s.params)) before head
same_port s k before None = refl
same_port s k before (Some head) = same_extent s k head.range

known_port : (r : Readable) (before : Extent) (head : Option (PortHeadOf ℕ)) → are_lawful_params r.constants ≡ true
    → is_known before ≡ true → port_head_faults Constant r head ≡ [] → port_head_faults Width r head ≡ []
    → is_known (port_extent r before head) ≡ true
known_port r before None l b h k = b
known_port r before (Some head) l b h k = extent_known r head.range l h k

ports_placed : (s : Scope) (k : ℕ) (x : Extent) (ns : List (Named ScopeNet)) (ms : List (Named ScopeMemory)) (ps : List (PortOf ℕ))
    → are_lawful_params (take k s.params) ≡ true → is_known x ≡ true → are_nets ns ≡ true → are_memories ms ≡ true
    → ports_faults Constant (readable_at s k) x ps ≡ [] → ports_faults Width (readable_at s k) x ps ≡ []
    → IsPlaced s.params k (with_ports x (state s.params k ns ms) ps)
ports_placed s k x ns ms [] l b hn hm h w = (ns, ms, refl, hn, hm)
ports_placed s k x ns ms (p ∷ ps) l b hn hm h w =
    let r = readable_at s k in
    let y = port_extent r x p.head in
    let z = port_extent (params_alone (take k s.params)) x p.head in
    let same : y ≡ z = same_port s k x p.head in
    let hc : port_faults Constant r y p ≡ [] = nil_left (port_faults Constant r y p) (ports_faults Constant r y ps) h in
    let hw : port_faults Width r y p ≡ [] = nil_left (port_faults Width r y p) (ports_faults Width r y ps) w in
    let rest : name_faults Width y p.id ++ fixed_faults Width r p.init ≡ [] =
    nil_right (port_head_faults Width r p.head) (name_faults Width y p.id ++ fixed_faults Width r p.init) hw in
    let known : is_known y ≡ true =
    known_port r x p.head l b
    (nil_left (port_head_faults Constant r p.head) (name_faults Constant y p.id ++ fixed_faults Constant r p.init) hc)
    (nil_left (port_head_faults Width r p.head) (name_faults Width y p.id ++ fixed_faults Width r p.init) hw) in
    let own : is_named y ≡ true = named y p.id known (nil_left (name_faults Width y p.id) (fixed_faults Width r p.init) rest) in
    ports_placed s k z (with_net z ns p.id.name) ms ps l (sym (ap is_known same) ∙ known)
    (net_added z ns p.id.name (sym (ap is_named same) ∙ own) hn) hm
    (sym (ap (λ e. ports_faults Constant r e ps) same) ∙ nil_right (port_faults Constant r y p) (ports_faults Constant r y ps) h)
    (sym (ap (λ e. ports_faults Width r e ps) same) ∙ nil_right (port_faults Width r y p) (ports_faults Width r y ps) w)

-- ---- items
wires_placed : (x : Extent) (ns : List (Named ScopeNet)) (ids : List (IdentOf ℕ)) → is_known x ≡ true → are_nets ns ≡ true
    → flat_map (name_faults Width x) ids ≡ [] → are_nets (wire_nets x ns ids) ≡ true
wires_placed x ns [] b hn w = hn
wires_placed x ns (id ∷ ids) b hn w =
    wires_placed x (with_net x ns id.name) ids b
    (net_added x ns id.name (named x id b (nil_left (name_faults Width x id) (flat_map (name_faults Width x) ids) w)) hn)
    (nil_right (name_faults Width x id) (flat_map (name_faults Width x) ids) w)

driven_placed : (r : Readable) (x : Extent) (ns : List (Named ScopeNet)) (ws : List (NamedValueOf ℕ)) → is_known x ≡ true
    → are_nets ns ≡ true
    → flat_map (driven_faults Width r x) ws ≡ [] → are_nets (driven_nets x ns ws) ≡ true
driven_placed r x ns [] b hn w = hn
driven_placed r x ns (v ∷ vs) b hn w =
    driven_placed r x (with_net x ns v.id.name) vs b
    (net_added x ns v.id.name (named x v.id b (nil_left (name_faults Width x v.id) (expr_faults Width r v.value)
    (nil_left (driven_faults Width r x v) (flat_map (driven_faults Width r x) vs) w))) hn)
    (nil_right (driven_faults Width r x v) (flat_map (driven_faults Width r x) vs) w)

reg_placed : (params : List (Named Param)) (k : ℕ) (x : Extent) (ns : List (Named ScopeNet)) (ms : List (Named ScopeMemory)) (n : List ℕ)
    (tail : Option (RegTailOf ℕ)) → is_named x ≡ true → are_nets ns ≡ true → are_memories ms ≡ true
    → IsPlaced params k (with_reg x (state params k ns ms) n tail)
reg_placed params k x ns ms n None b hn hm = (with_net x ns n, ms, refl, net_added x ns n b hn, hm)
reg_placed params k x ns ms n (Some (InitTail e)) b hn hm = (with_net x ns n, ms, refl, net_added x ns n b hn, hm)
reg_placed params k x ns ms n (Some (MemoryTail range)) b hn hm =
    let v : ScopeMemory =
    record { width = net_width x; length = or_most (memory_length (params_alone (take k params)) range) } in
    (ns, added ms n v, refl, hn, all_added (λ (m : Named ScopeMemory). is_lawful m.value.width) ms n v hm (lawful_net x b))

regs_placed : (params : List (Named Param)) (k : ℕ) (r : Readable) (x : Extent) (ns : List (Named ScopeNet))
    (ms : List (Named ScopeMemory))
    (gs : List (Reg1Of ℕ)) → is_known x ≡ true → are_nets ns ≡ true → are_memories ms ≡ true
    → flat_map (reg_faults Width r x) gs ≡ [] → IsPlaced params k (with_regs x (state params k ns ms) gs)
regs_placed params k r x ns ms [] b hn hm w = (ns, ms, refl, hn, hm)
regs_placed params k r x ns ms (g ∷ gs) b hn hm w =
    let own : is_named x ≡ true =
    named x g.id b (nil_left (name_faults Width x g.id) (tail_faults Width r g.tail)
    (nil_left (reg_faults Width r x g) (flat_map (reg_faults Width r x) gs) w)) in
    let one = reg_placed params k x ns ms g.id.name g.tail own hn hm in
    let rest = regs_placed params k r x one.0 one.1 gs b one.3 one.4
    (nil_right (reg_faults Width r x g) (flat_map (reg_faults Width r x) gs) w) in
    (rest.0, rest.1, ap (λ s. with_regs x s gs) one.2 ∙ rest.2, rest.3, rest.4)

known_range : (s : Scope) (k : ℕ) (range : Option (RangeOf ℕ)) → are_lawful_params (take k s.params) ≡ true
    → range_faults Constant (readable_at s k) range ≡ [] → range_faults Width (readable_at s k) range ≡ []
    → is_known (extent_of (readable_at s k) range) ≡ true
known_range s k range l h w = extent_known (readable_at s k) range l h w

item_placed : (s : Scope) (k : ℕ) (ns : List (Named ScopeNet)) (ms : List (Named ScopeMemory)) (i : ItemOf ℕ)
    → are_lawful_params (take k s.params) ≡ true → are_nets ns ≡ true → are_memories ms ≡ true
    → item_faults Constant s k i ≡ [] → item_faults Width s k i ≡ []
    → IsPlaced s.params (after_item s.params k i) (with_item (state s.params k ns ms) i)
unfolding item_faults
item_placed s k ns ms (WiresItem range ids) l hn hm h w =
    let r = readable_at s k in
    let x = extent_of r range in
    let y = extent_of (params_alone (take k s.params)) range in
    let same : x ≡ y = same_extent s k range in
    let known : is_known x ≡ true =
    known_range s k range l (nil_left (range_faults Constant r range) _ h) (nil_left (range_faults Width r range) _ w) in (
      wire_nets y ns ids,
      ms,
      refl,
      sym (ap (λ e. are_nets (wire_nets e ns ids)) same)
          ∙ wires_placed x ns ids known hn (nil_right (range_faults Width r range) (flat_map (name_faults Width x) ids) w),
      hm,
    )
item_placed s k ns ms (DrivenWiresItem range ws) l hn hm h w =
    let r = readable_at s k in
    let x = extent_of r range in
    let y = extent_of (params_alone (take k s.params)) range in
    let same : x ≡ y = same_extent s k range in
    let known : is_known x ≡ true =
    known_range s k range l (nil_left (range_faults Constant r range) _ h) (nil_left (range_faults Width r range) _ w) in (
      driven_nets y ns ws,
      ms,
      refl,
      sym (ap (λ e. are_nets (driven_nets e ns ws)) same)
          ∙ driven_placed r x ns ws known hn (nil_right (range_faults Width r range) (flat_map (driven_faults Width r x) ws) w),
      hm,
    )
item_placed s k ns ms (RegsItem range gs) l hn hm h w =
    let r = readable_at s k in
    let x = extent_of r range in
    let y = extent_of (params_alone (take k s.params)) range in
    let same : x ≡ y = same_extent s k range in
    let known : is_known x ≡ true =
    known_range s k range l (nil_left (range_faults Constant r range) _ h) (nil_left (range_faults Width r range) _ w) in
    regs_placed s.params k r y ns ms gs (sym (ap is_known same) ∙ known) hn hm
    (sym (ap (λ e. flat_map (reg_faults Width r e) gs) same)
    ∙ nil_right (range_faults Width r range) (flat_map (reg_faults Width r x) gs) w)
item_placed s k ns ms (LocalparamsItem range vs) l hn hm h w = (ns, ms, refl, hn, hm)
item_placed s k ns ms (AssignItem assigns) l hn hm h w = (ns, ms, refl, hn, hm)
item_placed s k ns ms (AlwaysItem a) l hn hm h w = (ns, ms, refl, hn, hm)
item_placed s k ns ms (InstanceItem i) l hn hm h w = (ns, ms, refl, hn, hm)

-- lawful nets and memories
abbrev pub ArePlaced : List (Named Param) → Scope → Type 0
ArePlaced params s = (s.params ≡ params) × (are_nets s.nets ≡ true) × (are_memories s.memories ≡ true)

are_placed : (params : List (Named Param)) (k : ℕ) (ns : List (Named ScopeNet)) (ms : List (Named ScopeMemory)) (s : Scope)
    → s ≡ state params k ns ms → are_nets ns ≡ true → are_memories ms ≡ true → ArePlaced params s
are_placed params k ns ms s e hn hm =
    (ap (λ (t : Scope). t.params) e, ap (λ (t : Scope). are_nets t.nets) e ∙ hn, ap (λ (t : Scope). are_memories t.memories) e ∙ hm)

items_placed : (s : Scope) (k : ℕ) (t : Scope) (is : List (ItemOf ℕ)) → are_lawful_params s.params ≡ true → IsPlaced s.params k t
    → items_faults Constant s k is ≡ [] → items_faults Width s k is ≡ [] → ArePlaced s.params (with_items t is)
items_placed s k t [] l p h w = are_placed s.params k p.0 p.1 t p.2 p.3 p.4
items_placed s k t (i ∷ is) l p h w =
    let next = after_item s.params k i in
    let one = item_placed s k p.0 p.1 i (lawful_front k s.params l) p.3 p.4
    (nil_left (item_faults Constant s k i) (items_faults Constant s next is) h)
    (nil_left (item_faults Width s k i) (items_faults Width s next is) w) in
    items_placed s next (with_item t i) is l (one.0, one.1, ap (λ u. with_item u i) p.2 ∙ one.2, one.3, one.4)
    (nil_right (item_faults Constant s k i) (items_faults Constant s next is) h)
    (nil_right (item_faults Width s k i) (items_faults Width s next is) w)

-- ---- a whole instance
kept_ports : (x : Extent) (s : Scope) (ps : List (PortOf ℕ)) → (with_ports x s ps).params ≡ s.params
kept_ports x s [] = refl
kept_ports x s (p ∷ ps) =
    kept_ports (port_extent (params_alone (take s.declared s.params)) x p.head)
    (with_port (port_extent (params_alone (take s.declared s.params)) x p.head) s p.id.name) ps

kept_reg : (x : Extent) (s : Scope) (n : List ℕ) (tail : Option (RegTailOf ℕ)) → (with_reg x s n tail).params ≡ s.params
kept_reg x s n None = refl
kept_reg x s n (Some (InitTail e)) = refl
kept_reg x s n (Some (MemoryTail range)) = refl

kept_regs : (x : Extent) (s : Scope) (gs : List (Reg1Of ℕ)) → (with_regs x s gs).params ≡ s.params
kept_regs x s [] = refl
kept_regs x s (g ∷ gs) = kept_regs x (with_reg x s g.id.name g.tail) gs ∙ kept_reg x s g.id.name g.tail

kept_item : (s : Scope) (i : ItemOf ℕ) → (with_item s i).params ≡ s.params
kept_item s (WiresItem range ids) = refl
kept_item s (DrivenWiresItem range ws) = refl
kept_item s (RegsItem range gs) = kept_regs (extent_of (params_alone (take s.declared s.params)) range) s gs
kept_item s (LocalparamsItem range vs) = refl
kept_item s (AssignItem assigns) = refl
kept_item s (AlwaysItem a) = refl
kept_item s (InstanceItem i) = refl

kept_items : (s : Scope) (is : List (ItemOf ℕ)) → (with_items s is).params ≡ s.params
kept_items s [] = refl
kept_items s (i ∷ is) = kept_items (with_item s i) is ∙ kept_item s i

-- what is found, by its three parts
three_parts : {A : Type 0} → (a b c : List A) → a ++ (b ++ c) ≡ [] → (a ≡ []) × (b ≡ []) × (c ≡ [])
three_parts a b c h = (nil_left a (b ++ c) h, nil_left b c (nil_right a (b ++ c) h), nil_right b c (nil_right a (b ++ c) h))

pub lawful_scope : (r : Readable) (conns : List (ConnOf ℕ)) (m : ModuleOf ℕ) → are_lawful_params r.constants ≡ true
    → flat_map (override_faults Constant r) conns ≡ [] → flat_map (override_faults Width r) conns ≡ []
    → const_faults m (scope_of r conns m) ≡ [] → width_faults m (scope_of r conns m) ≡ [] → is_lawful_scope (scope_of r conns m) ≡ true
unfolding scope_faults
lawful_scope r conns m l oc ow h w =
    let given = overrides_of r conns in
    let header = header_params given NoRange [] m.parameters in
    let params = items_params header m.items in
    let s = scope_of r conns m in
    let k = length header in
    let bare = params_scope k params in
    let kept : s.params ≡ params = kept_items (with_ports NoRange bare m.ports) m.items ∙ kept_ports NoRange bare m.ports in
    let hc = three_parts (parameters_faults Constant s 0 NoRange m.parameters) (ports_faults Constant (readable_at s k) NoRange m.ports)
    (items_faults Constant s k m.items) h in
    let hw = three_parts (parameters_faults Width s 0 NoRange m.parameters) (ports_faults Width (readable_at s k) NoRange m.ports)
    (items_faults Width s k m.items) w in
    let grown = grown_items header m.items in
    let whole : s.params ≡ header ++ grown.0 = kept ∙ grown.1 in
    let lh : are_lawful_params header ≡ true =
    lawful_header given s 0 NoRange [] m.parameters (made_after r [] conns l oc ow tt) refl refl (grown.0, whole) refl hc.0 hw.0 in
    let own = grown_same params in
    let lp : are_lawful_params params ≡ true = lawful_items s k header m.items refl (own.0, kept ∙ own.1) lh hc.2 hw.2 in
    let ls : are_lawful_params s.params ≡ true = ap are_lawful_params kept ∙ lp in
    let ports = ports_placed s k NoRange [] [] m.ports (lawful_front k s.params ls) refl refl refl hc.1 hw.1 in
    let placed = items_placed s k (with_ports NoRange (state s.params k [] []) m.ports) m.items ls ports hc.2 hw.2 in
    let same : with_items (with_ports NoRange (state s.params k [] []) m.ports) m.items
    ≡ with_items (with_ports NoRange bare m.ports) m.items =
    ap (λ (ps : List (Named Param)). with_items (with_ports NoRange (params_scope k ps) m.ports) m.items) kept in
    and_from (are_lawful_params s.params) (are_nets s.nets && are_memories s.memories) ls
    (and_from (are_nets s.nets) (are_memories s.memories) (sym (ap (λ (t : Scope). are_nets t.nets) same) ∙ placed.1)
    (sym (ap (λ (t : Scope). are_memories t.memories) same) ∙ placed.2))

pub lawful_declared : (s : Scope) (k : ℕ) → is_lawful_scope s ≡ true → are_lawful_params (readable_at s k).constants ≡ true
lawful_declared s k h = lawful_front k s.params (left_of (are_lawful_params s.params) (are_nets s.nets && are_memories s.memories) h)
