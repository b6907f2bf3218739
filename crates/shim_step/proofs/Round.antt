-- A top round a design: what it carries to the clock, the reset and the ties, and the design's step below it.
use Rattle.std.proofs.Common.{◌≡◌, ◌≢◌, ℕ, zero, suc, ◌<◌, Bool, false, List, [], ◌∷◌, ◌++◌, map, length, Option, None, Some, IfSome}
use Rattle.std.proofs.Common.{refl, sym, ap, ◌∙◌, subst, arith, inl, inr, slice_get, get_or}
use Rattle.std.specs.Prelude.{codes}
use Rattle.std.specs.List.{AllByRecursion, flat_map}
use Rattle.std.proofs.lemmas.List.{get_or-map}
use Rattle.std.proofs.lemmas.Option.{get_or_from_slice_get, slice_get_within}
use Rattle.std.proofs.lemmas.List.Elements.{recursion_from_All}
use Rattle.net_order.specs.vidi_bits.Number.{IsWidth}
use Rattle.net_order.proofs.vidi_bits_lemmas.Lists.{some_same}
use Rattle.vlog_tree.specs.Tree.{PortOf, ModuleOf, FileOf}
use Rattle.vlog_tree.specs.declared.module.Direction.TheVariants as tree
use Rattle.shim_trees.specs.vlog_size.Table.{Named, value_of}
use Rattle.flat_parts.specs.vlog_names.declared.declaration.Declaration.{Declaration}
use Rattle.flat_parts.specs.vlog_names.Entries.{no_port, port_entries, header_entries, parameter_entry, item_entries, declared}
use Rattle.flat_parts.specs.vlog_scope.Scope.{scope_with}
use Rattle.net_design.specs.declared.design.Design.{Design}
use Rattle.net_design.specs.declared.design.Direction.TheVariants.{Input}
use Rattle.net_design.specs.declared.design.Instance.{Instance}
use Rattle.net_design.specs.declared.design.Net.{Net}
use Rattle.net_design.specs.declared.design.Port.{Port}
use Rattle.net_design.specs.Names.{list_at, paths, paths_after, net_names}
use Rattle.net_design.specs.Settled as design
use Rattle.flat_parts.specs.vlog_driver.Names.{Name, Full, State}
use Rattle.flat_parts.specs.vlog_driver.Settled.{IsSettled, IsClock, inputs_of}
use Rattle.flat_parts.specs.Meaning.{values_of, state_of, AreNarrow}
use Rattle.flat_parts.specs.Nets.{port_of, flat_ports}
use Rattle.chan_replayer.specs.chan_map.declared.pins.Map.{Map}
use Rattle.chan_replayer.specs.chan_map.declared.pins.Pin.{Pin}
use Rattle.chan_replayer.specs.chan_map.declared.pins.Reset.{Reset}
use Rattle.chan_replayer.specs.chan_map.declared.pins.Tie.{Tie}
use Rattle.chan_replayer.specs.chan_map.Bound.{IsPin, IsTie}
use Rattle.chan_replayer.specs.run_model.Pins.{reset_input}
use Rattle.chan_replayer.proofs.run_model_lemmas.RowParts.{channel-at}
use Rattle.flat_parts.proofs.Ports.{inputs_placed}
use Rattle.shim_trees.specs.Pieces.{input}
use Rattle.shim_trees.specs.Links.{link, tied, tied_link, links, held, tied_input, tied_port, tied_ports, reset_width, tie_width}
use Rattle.shim_step.specs.Part.{under, part, pins_below, IsPart}
use Rattle.shim_step.proofs.FlatPart.{narrow}
use Rattle.shim_step.proofs.Part.{part_is_settled}
use Rattle.shim_step.proofs.Elements.{Has, in_slice, has_flat, contains_has, at_member, mapped, get_map, Apart, apart_from, apart_front, apart_back}
use Rattle.shim_step.specs.Wrapped.{IsWrapped, DUT}
use Rattle.shim_step.specs.Ports.{HasHeld}
use Rattle.shim_step.proofs.Files as files
use Rattle.shim_step.proofs.Stand.{HasNet, port_has, one_bit}
use Rattle.shim_step.proofs.Dut.{HasDut, at_dut, behind, dut_part, port_joined}
use Rattle.shim_step.proofs.Entered.{Carries}
use Rattle.shim_step.proofs.Links as joint

abbrev names : {V : Type 0} → List (Named V) → List Name
names {V} xs = map (λ (x : Named V). x.name) xs

-- a top that has the clock, the tied inputs and the design
pub record IsRound (f : FileOf ℕ) (a : Map) (m : ModuleOf ℕ) (valid ready : Name) (T : ModuleOf ℕ) : Type 0 where
  pub dut : HasDut (files.more_of f a) T m (links valid ready a)
  pub clock : Has T.ports (input (codes "clk") 1)
  pub tied : (p : PortOf ℕ) → Has (tied_ports a m.ports) p → Has T.ports p

-- ---- ports of different names
same_place : {V : Type 0} (xs : List (Named V)) → Apart xs → (j k : ℕ) (x y : Named V) → slice_get xs j ≡ Some x → slice_get xs k ≡ Some y
    → x.name ≡ y.name → j ≡ k
same_place [] h j k x y a b e = absurd (cc)
same_place (z ∷ xs) h zero zero x y a b e = refl
same_place {V} (z ∷ xs) h zero (suc k) x y a b e =
    absurd (at_member (λ (w : Named V). z.name ≢ w.name) xs y h.0 (in_slice xs k y b) (ap (λ (w : Named V). w.name) (some_same z x a) ∙ e))
same_place {V} (z ∷ xs) h (suc j) zero x y a b e =
    absurd (at_member (λ (w : Named V). z.name ≢ w.name) xs x h.0 (in_slice xs j x a) (ap (λ (w : Named V). w.name) (some_same z y b) ∙ sym e))
same_place (z ∷ xs) h (suc j) (suc k) x y a b e = ap suc (same_place xs h.1 j k x y a b e)

-- ---- the paths of a design begin with the top's
path_stays : (known : List (List (List ℕ))) (rest : List Instance) (x : List (List ℕ)) → list_at (paths_after (x ∷ known) rest) 0 ≡ x
path_stays known [] x = refl
path_stays known (i ∷ rest) x = path_stays (known ++ (list_at (x ∷ known) i.parent ++ i.name ∷ []) ∷ []) rest x

first_path : (is : List Instance) → list_at (paths is) 0 ≡ []
first_path [] = refl
first_path (i ∷ is) = path_stays [] is []

module _ {f : FileOf ℕ} {a : Map} {m : ModuleOf ℕ} {d : Design} (w : IsWrapped f a m d) where
  -- the number of port k by its name
  pub ports_show : (v : Full → ℕ) (words : Full → ℕ → ℕ) (k : ℕ) (p : Port) → slice_get d.ports k ≡ Some p
      → get_or (values_of d v words).nets k 0 ≡ v (p.name ∷ [])
  ports_show v words k p at =
      let law = w.lawful in
      let few = law.ports in
      let l = slice_get_within d.ports k p at in
      let n = channel-at d.nets k (omega (arith, l, few)) in
      let full : Net → Full = λ (x : Net). list_at (paths d.instances) x.instance ++ x.name ∷ [] in
      let named = law.port_nets k p n.0 at n.1 in
      let at_net : slice_get (net_names d) k ≡ Some (full n.0) = get_map full d.nets k n.0 n.1 in
      let within : k < length (net_names d) = slice_get_within (net_names d) k (full n.0) at_net in
      get_or-map v (net_names d) k (full n.0) 0 within
      ∙ ap v (get_or_from_slice_get (net_names d) k (full n.0) (full n.0) at_net
      ∙ ap (λ i. list_at (paths d.instances) i ++ n.0.name ∷ []) named.2
      ∙ ap (λ path. path ++ n.0.name ∷ []) (first_path d.instances)
      ∙ ap (λ x. x ∷ []) named.0)

  pub own_apart : Apart (declared m)
  own_apart = apart_from (declared m) (files.differ w m (files.design_there w))

  entries_apart : Apart (port_entries no_port m.ports)
  unfolding declared
  entries_apart = apart_back (map parameter_entry m.parameters) (port_entries no_port m.ports)
      (apart_front (header_entries m) (flat_map item_entries m.items) own_apart)

  pub ports_are : (k : ℕ) (p : Port) → slice_get d.ports k ≡ Some p → slice_get (flat_ports m (scope_with [] m)) k ≡ Some p
  ports_are k p at = ap (λ ps. slice_get ps k) (sym w.built.ports) ∙ at

  pub ports_differ : (j k : ℕ) (p q : Port) → slice_get d.ports j ≡ Some p → slice_get d.ports k ≡ Some q → p.name ≡ q.name → j ≡ k
  ports_differ j k p q at bt e =
      let x = mapped (port_of (scope_with [] m)) (port_entries no_port m.ports) j p (ports_are j p at) in
      let y = mapped (port_of (scope_with [] m)) (port_entries no_port m.ports) k q (ports_are k q bt) in
      same_place (port_entries no_port m.ports) entries_apart j k x.x y.x x.at y.at
      (ap (λ (r : Port). r.name) x.is ∙ e ∙ sym (ap (λ (r : Port). r.name) y.is))

  -- a pin's width is lawful
  net_widths : (k : ℕ) (n : Net) → slice_get d.nets k ≡ Some n → IsWidth n.width
  net_widths k n at =
      (at_member (λ (x : Net). IsWidth x.width × (x.instance < length d.instances)) d.nets n
      (recursion_from_All (λ (x : Net). IsWidth x.width × (x.instance < length d.instances)) d.nets w.lawful.nets) (in_slice d.nets k n at)).0

  pub pin_width : (way : Rattle.net_design.specs.declared.design.Direction.Direction) (width : ℕ) (pin : Pin) → IsPin d way width pin → IsWidth width
  pin_width way width pin p =
      let few = w.lawful.ports in
      let l = slice_get_within d.ports p.port p.p p.at in
      let n = channel-at d.nets p.port (omega (arith, l, few)) in
      subst IsWidth ((w.lawful.port_nets p.port p.p n.0 p.at n.1).1 ∙ p.width_is) (net_widths p.port n.0 n.1)

  -- ---- a top
  module _ {valid ready : Name} {T : ModuleOf ℕ} (round : IsRound f a m valid ready T) where
    abbrev ls : List (Named Name)
    ls = links valid ready a

    pub linked : (l : Named Name) → Has (links valid ready a) l → value_of (links valid ready a) l.name ≡ Some l.value
    linked l there = joint.linked d ports_differ a w.mapped valid ready l there

    tied_net : (pin : Pin) (width : ℕ) → IsPin d Input width pin → value_of (held a) pin.name ≡ Some width → HasNet T (tied pin.name) width
    tied_net pin width p value =
        let e = mapped (port_of (scope_with [] m)) (port_entries no_port m.ports) p.port p.p (ports_are p.port p.p p.at) in
        let b = behind no_port m.ports p.port e.x e.at in
        let named_so : b.p.id.name ≡ pin.name = b.named ∙ ap (λ (q : Port). q.name) e.is ∙ p.name in
        let tie : tied_port (held a) b.p ≡ input (tied pin.name) width ∷ [] =
        ap (λ y. tied_input y (value_of (held a) y)) named_so ∙ ap (tied_input pin.name) value in
        port_has T (tree.Input false) (tied pin.name) width (pin_width Input width pin p)
        (round.tied (input (tied pin.name) width)
        (has_flat (tied_port (held a)) m.ports b.p (input (tied pin.name) width) b.there
        (subst (λ ps. Has ps (input (tied pin.name) width)) (sym tie) (inl refl))))

    module _ (v : Full → ℕ) (resets : Bool) (on : HasHeld a resets v) where
      pub clock_carries : Carries T (links valid ready a) v a.clock 1 0
      clock_carries = record {
        net = codes "clk";
        linked = linked (link a.clock (codes "clk")) (joint.clock_link valid ready a);
        is = port_has T (tree.Input false) (codes "clk") 1 one_bit round.clock;
        shows = on.clock;
      }

      reset_at : (o : Option Reset) → a.reset ≡ o → IfSome o (λ (r : Reset). IsPin d Input 1 r.pin)
          → IfSome o (λ (r : Reset). v (tied r.pin.name ∷ []) ≡ (reset_input resets r).number)
          → IfSome o (λ (r : Reset). Carries T (links valid ready a) v r.pin 1 (reset_input resets r).number)
      reset_at None e p h = tt
      reset_at (Some r) e p h = record {
        net = tied r.pin.name;
        linked = linked (tied_link r.pin) (joint.reset_link valid ready a r e);
        is = tied_net r.pin 1 p (joint.width_found d ports_differ a w.mapped (reset_width r) (joint.reset_held a r e));
        shows = h;
      }

      pub reset_carries : IfSome a.reset (λ (r : Reset). Carries T (links valid ready a) v r.pin 1 (reset_input resets r).number)
      reset_carries = reset_at a.reset refl w.mapped.reset on.reset

      ties_at : (ts : List Tie) → ((t : Tie) → Has ts t → Has a.ties t) → AllByRecursion (IsTie d) ts
          → AllByRecursion (λ (t : Tie). v (tied t.pin.name ∷ []) ≡ t.number) ts
          → AllByRecursion (λ (t : Tie). Carries T (links valid ready a) v t.pin t.width t.number) ts
      ties_at [] all p h = tt
      ties_at (t ∷ ts) all p h = (
        record {
          net = tied t.pin.name;
          linked = linked (tied_link t.pin) (joint.tie_link valid ready a t (all t (inl refl)));
          is = tied_net t.pin t.width p.0.pin
              (joint.width_found d ports_differ a w.mapped (tie_width t) (joint.tie_held a t (all t (inl refl))));
          shows = h.0;
        },
        ties_at ts (λ u there. all u (inr there)) p.1 h.1,
      )

      pub ties_carry : AllByRecursion (λ (t : Tie). Carries T (links valid ready a) v t.pin t.width t.number) a.ties
      ties_carry = ties_at a.ties (λ t there. there) w.mapped.ties on.ties

    -- ---- the design below it
    pub part_here : IsPart f.modules (files.more_of f a) T DUT m
    part_here = record { extends = files.extends w; has = dut_part round.dut }

    clock_entry : (n : Name) → IsClock f.modules m n → n ≡ a.clock.name
    clock_entry n c =
        let es = port_entries no_port m.ports in
        let placed = at_member (λ x. (k : ℕ) × (slice_get (names es) k ≡ Some x)) (inputs_of m) n (inputs_placed es) (contains_has (inputs_of m) n c.0) in
        let e = mapped (λ (x : Named Declaration). x.name) es placed.0 n placed.1 in
        let at : slice_get d.ports placed.0 ≡ Some (port_of (scope_with [] m) e.x) =
        ap (λ ps. slice_get ps placed.0) w.built.ports ∙ get_map (port_of (scope_with [] m)) es placed.0 e.x e.at in
        let named : slice_get (map (λ (p : Port). p.name) d.ports) placed.0 ≡ Some n =
        get_map (λ (p : Port). p.name) d.ports placed.0 (port_of (scope_with [] m) e.x) at ∙ ap Some e.is in
        let clock : d.clock ≡ Some placed.0 = (w.built.clock placed.0).1 (n, named, c) in
        let same : placed.0 ≡ w.mapped.clock.port = w.mapped.own_clock placed.0 clock in
        let one : port_of (scope_with [] m) e.x ≡ w.mapped.clock.p =
        some_same (port_of (scope_with [] m) e.x) w.mapped.clock.p (sym at ∙ ap (slice_get d.ports) same ∙ w.mapped.clock.at) in
        sym e.is ∙ ap (λ (p : Port). p.name) one ∙ w.mapped.clock.name

    clock_low : {s : State} {pins : List ℕ} {v : Full → ℕ} → IsSettled (files.more_of f a) T s pins v → v (codes "clk" ∷ []) ≡ 0
        → (n : Name) → IsClock f.modules m n → at_dut v n ≡ 0
    clock_low {v = v} settled low n c =
        let p = w.mapped.clock in
        ap (at_dut v) (clock_entry n c ∙ sym p.name)
        ∙ port_joined round.dut settled p.port p.p (ports_are p.port p.p p.at) (codes "clk")
        (ap (value_of ls) p.name ∙ linked (link a.clock (codes "clk")) (joint.clock_link valid ready a))
        (subst (λ x. HasNet T (codes "clk") x) (sym p.width_is) (port_has T (tree.Input false) (codes "clk") 1 one_bit round.clock))
        ∙ low

    -- the design's part is settled at the pins that it has
    pub inner_settled : {s : State} {pins : List ℕ} {v : Full → ℕ} → IsSettled (files.more_of f a) T s pins v
        → AreNarrow (files.more_of f a) T s.words → v (codes "clk" ∷ []) ≡ 0
        → design.IsSettled d (state_of d (part DUT s)) (pins_below m DUT v) (values_of d (under DUT v) (under DUT s.words))
    inner_settled {s = s} {pins = pins} {v = v} settled small low =
        let p = part_here in
        (w.means.settled (part DUT s) (pins_below m DUT v) (under DUT v) (narrow f.modules (files.more_of f a) T m DUT p s.words small)).1
        (part_is_settled f.modules (files.more_of f a) T m DUT p s pins v settled (clock_low settled low))
