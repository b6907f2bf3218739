-- What is entered at the design's inputs, and what stands at its outputs.
use Rattle.std.proofs.Common.{◌≡◌, ℕ, suc, ◌+◌, ◌<◌, ◌≤◌, ◌&&◌, Bool, true, false, if◌then◌else◌, List, [], ◌∷◌, ◌++◌, map, length}
use Rattle.std.proofs.Common.{Option, None, Some, IfSome, refl, sym, ap, ◌∙◌, subst, arith, slice_get, take, get_or}
use Rattle.std.specs.Prelude.{count_by}
use Rattle.std.specs.List.{AllByRecursion, AllZip, enumerate_from, range_with_len}
use Rattle.std.specs.Option.{option_to_list}
use Rattle.std.proofs.lemmas.List.{length-map, append-nil}
use Rattle.std.proofs.lemmas.List.Elements.{All-from_recursion}
use Rattle.std.proofs.lemmas.List.{ext_get_or}
use Rattle.vlog_tree.specs.Tree.{ModuleOf}
use Rattle.shim_trees.specs.vlog_size.Table.{Named, value_of}
use Rattle.flat_parts.specs.vlog_names.Entries.{Names, no_port, port_entries}
use Rattle.flat_parts.specs.vlog_names.declared.declaration.Declaration.{Declaration}
use Rattle.flat_parts.specs.vlog_scope.Scope.{scope_with}
use Rattle.net_design.specs.declared.design.Design.{Design}
use Rattle.net_design.specs.declared.design.Port.{Port}
use Rattle.net_design.specs.declared.design.Direction.TheVariants.{Input, Output}
use Rattle.net_design.specs.Settled.{same_direction, pins_of}
use Rattle.net_design.specs.Pins.{input_limits}
use Rattle.flat_parts.specs.vlog_driver.Names.{Full, State}
use Rattle.flat_parts.specs.vlog_driver.Settled.{IsSettled, inputs_of}
use Rattle.flat_parts.specs.Nets.{flat_ports, port_of}
use Rattle.chan_replayer.specs.trace_model.declared.channel.Channel.{Channel}
use Rattle.chan_replayer.specs.trace_model.declared.channel.Dir.{Dir}
use Rattle.chan_replayer.specs.trace_model.declared.channel.Dir.TheVariants.{Inward, Outward}
use Rattle.chan_replayer.specs.trace_model.declared.row.Row.{Row}
use Rattle.net_order.specs.vidi_bits.Number.{truth, has}
use Rattle.chan_replayer.proofs.trace_model_lemmas.CountingLemmas.{count-cons}
use Rattle.chan_replayer.specs.trace_model.Row.{content_at, sink_valid}
use Rattle.chan_replayer.specs.chan_map.declared.pins.Map.{Map}
use Rattle.chan_replayer.specs.chan_map.declared.pins.Pin.{Pin}
use Rattle.chan_replayer.specs.chan_map.declared.pins.Plug.{Plug}
use Rattle.chan_replayer.specs.chan_map.declared.pins.Reset.{Reset}
use Rattle.chan_replayer.specs.chan_map.declared.pins.Tie.{Tie}
use Rattle.chan_replayer.specs.chan_map.Bound.{IsPin, IsPlug, IsTie}
use Rattle.chan_replayer.specs.run_model.declared.pins.PinNumber.{PinNumber}
use Rattle.chan_replayer.specs.run_model.Building.{AreSmall, number_for}
use Rattle.chan_replayer.specs.run_model.MapOf.{IsMapOf}
use Rattle.chan_replayer.specs.run_model.Pins.{pin_number, shown_number, reset_input, tie_input, plug_inputs, inputs_from, entered, ArePins}
use Rattle.chan_replayer.proofs.run_model_lemmas.PinLemmas.{pin-at, ways, input-count, stands, are-pins, all-at}
use Rattle.net_order.proofs.vidi_bits_lemmas.Each.{each_append}
use Rattle.flat_parts.proofs.Ports.{pins_are, port_number}
use Rattle.shim_trees.specs.Pieces.{Name}
use Rattle.shim_step.specs.Part.{pins_below}
use Rattle.shim_step.proofs.Elements.{Mapped, mapped, get_map}
use Rattle.shim_step.specs.Wrapped.{DUT}
use Rattle.shim_step.proofs.Stand.{HasNet}
use Rattle.shim_step.proofs.Dut.{HasDut, at_dut, port_joined}

abbrev names : {V : Type 0} → List (Named V) → List Name
names {V} xs = map (λ (x : Named V). x.name) xs

-- ---- how many
length_if : (b : Bool) (x : ℕ) (xs : List ℕ) → length (if b then x ∷ xs else xs) ≡ (if b then 1 else 0) + length xs
length_if true x xs = omega arith
length_if false x xs = omega arith

count-front : (test : Port → Bool) (p : Port) (ps : List Port) (xs : List ℕ) (x : ℕ) → length xs ≡ count_by test ps
    → length (if test p then x ∷ xs else xs) ≡ count_by test (p ∷ ps)
count-front test p ps xs x e = length_if (test p) x xs ∙ ap (λ n. (if test p then 1 else 0) + n) e ∙ sym (count-cons test p ps)

pins_long : (ports : List Port) (xs : List ℕ) → length xs ≡ length ports
    → length (pins_of Input ports xs) ≡ count_by (λ (p : Port). same_direction Input p.direction) ports
pins_long [] xs e = refl
pins_long (p ∷ ps) [] e = absurd (omega (arith, e))
pins_long (p ∷ ps) (x ∷ xs) e =
    count-front (λ (q : Port). same_direction Input q.direction) p ps (pins_of Input ps xs) x (pins_long ps xs (omega (arith, e)))

-- ---- the number of an input of the design by its place among them
module _ (m : ModuleOf ℕ) (f : Name → ℕ) where
  abbrev es : Names
  es = port_entries no_port m.ports

  abbrev ps : List Port
  ps = flat_ports m (scope_with [] m)

  at_place : (k : ℕ) (p : Port) → slice_get (flat_ports m (scope_with [] m)) k ≡ Some p → p.direction ≡ Input
      → get_or (map f (inputs_of m)) (count_by (λ (q : Port). same_direction Input q.direction) (take k ps)) 0 ≡ f p.name
  at_place k p at way =
      let e : Mapped (port_of (scope_with [] m)) es k p = mapped (port_of (scope_with [] m)) es k p at in
      let nums : List ℕ = map f (names es) ++ [] in
      let are : pins_of Input ps nums ≡ map f (inputs_of m) = pins_are f (scope_with [] m) es [] in
      let l1 = length-map es (port_of (scope_with [] m)) in
      let l2 = length-map (names es) f in
      let l3 = length-map es (λ (x : Named Declaration). x.name) in
      let l4 : length nums ≡ length (map f (names es)) = ap length (append-nil (map f (names es))) in
      let named : e.x.name ≡ p.name = ap (λ (q : Port). q.name) e.is in
      ap (λ xs. get_or xs (count_by (λ (q : Port). same_direction Input q.direction) (take k ps)) 0) (sym are)
      ∙ pin-at Input ps nums k p at (ways Input p way) (omega (arith, l1, l2, l3, l4))
      ∙ port_number f (names es) [] k e.x.name (get_map (λ (x : Named Declaration). x.name) es k e.x e.at)
      ∙ ap f named

  inner_long : length (map f (inputs_of m)) ≡ count_by (λ (q : Port). same_direction Input q.direction) ps
  inner_long =
      let nums : List ℕ = map f (names es) ++ [] in
      let are : pins_of Input ps nums ≡ map f (inputs_of m) = pins_are f (scope_with [] m) es [] in
      let l1 = length-map es (port_of (scope_with [] m)) in
      let l2 = length-map (names es) f in
      let l3 = length-map es (λ (x : Named Declaration). x.name) in
      let l4 : length nums ≡ length (map f (names es)) = ap length (append-nil (map f (names es))) in
      ap length (sym are) ∙ pins_long ps nums (omega (arith, l1, l2, l3, l4))

-- ---- what the nets carry

-- the name of the pin is linked to a net of this width that has this number
pub record Carries (top : ModuleOf ℕ) (ls : List (Named Name)) (v : Full → ℕ) (pin : Pin) (w number : ℕ) : Type 0 where
  pub net : Name
  pub linked : value_of ls pin.name ≡ Some net
  pub is : HasNet top net w
  pub shows : v (net ∷ []) ≡ number

module _ (top : ModuleOf ℕ) (ls : List (Named Name)) (v : Full → ℕ) (channels : List Channel) (row : Row) where
  abbrev pub CarryPlug : ℕ → Dir → List ℕ → Plug → Type 0
  CarryPlug c Inward widths plug =
      Carries top ls v plug.valid 1 (truth (sink_valid row c))
      × ((i w : ℕ) (pin : Pin) → slice_get widths i ≡ Some w → slice_get plug.contents i ≡ Some pin
      → Carries top ls v pin w (shown_number (sink_valid row c) (content_at channels row.contents c) i))
  CarryPlug c Outward widths plug = Carries top ls v plug.ready 1 (truth (has row.readies c && has row.gates c))

-- the nets carry what a cycle with this row enters
pub record CarryRow (top : ModuleOf ℕ) (ls : List (Named Name)) (v : Full → ℕ) (a : Map) (resets : Bool) (row : Row) : Type 0 where
  pub clock : Carries top ls v a.clock 1 0
  pub reset : IfSome a.reset (λ (r : Reset). Carries top ls v r.pin 1 (reset_input resets r).number)
  pub ties : AllByRecursion (λ (t : Tie). Carries top ls v t.pin t.width t.number) a.ties
  pub channels : (c : ℕ) (x : Channel) (plug : Plug) → slice_get a.channels c ≡ Some x → slice_get a.plugs c ≡ Some plug
      → CarryPlug top ls v a.channels row c x.dir x.widths plug

-- ---- the design's inputs and outputs
module _ {more : List (ModuleOf ℕ)} {T m : ModuleOf ℕ} {ls : List (Named Name)} (h : HasDut more T m ls) {s : State} {pins : List ℕ}
    {v : Full → ℕ} (settled : IsSettled more T s pins v) (d : Design) (ports : d.ports ≡ flat_ports m (scope_with [] m)) where
  abbrev inner : List ℕ
  inner = pins_below m DUT v

  enters : (pin : Pin) (w number : ℕ) → IsPin d Input w pin → Carries T ls v pin w number → get_or inner pin.place 0 ≡ number
  enters pin w number is c =
      let at : slice_get (flat_ports m (scope_with [] m)) is.port ≡ Some is.p = ap (λ qs. slice_get qs is.port) (sym ports) ∙ is.at in
      let place : pin.place ≡ count_by (λ (q : Port). same_direction Input q.direction) (take is.port (flat_ports m (scope_with [] m))) =
      is.place ∙ ap (λ qs. count_by (λ (q : Port). same_direction Input q.direction) (take is.port qs)) ports in
      let joined : at_dut v is.p.name ≡ v (c.net ∷ []) = port_joined h settled is.port is.p at c.net (ap (value_of ls) is.name ∙ c.linked)
      (subst (λ x. HasNet T c.net x) (sym is.width_is) c.is) in
      ap (λ k. get_or inner k 0) place ∙ at_place m (at_dut v) is.port is.p at is.direction_is ∙ joined ∙ c.shows

  abbrev Enters : PinNumber → Type 0
  Enters e = get_or inner e.place 0 ≡ e.number

  contents_enter : (valid : Bool) (content : List ℕ) (k : ℕ) (widths : List ℕ) (ps : List Pin)
      → AllZip (λ width pin. IsPin d Input width pin) widths ps
      → ((i j w : ℕ) (pin : Pin) → j ≡ k + i → slice_get widths i ≡ Some w → slice_get ps i ≡ Some pin
      → Carries T ls v pin w (shown_number valid content j))
      → AllByRecursion Enters (map (λ (p : ℕ × Pin). pin_number p.1.place (shown_number valid content p.0)) (enumerate_from k ps))
  contents_enter valid content k [] [] z h = tt
  contents_enter valid content k [] (p ∷ ps) z h = absurd z
  contents_enter valid content k (w ∷ ws) [] z h = absurd z
  contents_enter valid content k (w ∷ ws) (p ∷ ps) z h = (
    enters p w (shown_number valid content k) z.0 (h 0 k w p (omega arith) refl refl),
    contents_enter valid content (k + 1) ws ps z.1 (λ i j w2 pin is a b. h (suc i) j w2 pin (omega (arith, is)) a b),
  )

  module _ (channels : List Channel) (row : Row) where
    plug_enters : (c : ℕ) (dir : Dir) (name : List ℕ) (widths : List ℕ) (plug : Plug)
        → IsPlug d (record { dir = dir; name = name; widths = widths }) plug
        → CarryPlug T ls v channels row c dir widths plug → AllByRecursion Enters (plug_inputs channels row c dir plug)
    plug_enters c Inward name widths plug is carry = (
      enters plug.valid 1 (truth (sink_valid row c)) is.valid carry.0,
      contents_enter (sink_valid row c) (content_at channels row.contents c) 0 widths plug.contents is.contents
          (λ i j w pin same a b. (let e : i ≡ j = omega (arith, same) in
          subst (λ k. Carries T ls v pin w (shown_number (sink_valid row c) (content_at channels row.contents c) k)) e (carry.1 i w pin a b))),
    )
    plug_enters c Outward name widths plug is carry =
        (enters plug.ready 1 (truth (has row.readies c && has row.gates c)) is.ready carry, tt)

    plugs_enter : (c : ℕ) (xs : List Channel) (plugs : List Plug) → AllZip (IsPlug d) xs plugs
        → ((i j : ℕ) (x : Channel) (plug : Plug) → j ≡ c + i → slice_get xs i ≡ Some x → slice_get plugs i ≡ Some plug
        → CarryPlug T ls v channels row j x.dir x.widths plug)
        → AllByRecursion Enters (inputs_from channels row c xs plugs)
    plugs_enter c [] plugs z h = tt
    plugs_enter c (x ∷ xs) [] z h = tt
    plugs_enter c (x ∷ xs) (plug ∷ plugs) z h =
        each_append Enters (plug_inputs channels row c x.dir plug) (inputs_from channels row (c + 1) xs plugs)
        (plug_enters c x.dir x.name x.widths plug z.0 (h 0 c x plug (omega arith) refl refl))
        (plugs_enter (c + 1) xs plugs z.1 (λ i j y q is a b. h (suc i) j y q (omega (arith, is)) a b))

  ties_enter : (ts : List Tie) → AllByRecursion (IsTie d) ts → AllByRecursion (λ (t : Tie). Carries T ls v t.pin t.width t.number) ts
      → AllByRecursion Enters (map tie_input ts)
  ties_enter [] is c = tt
  ties_enter (t ∷ ts) is c = (enters t.pin t.width t.number is.0.pin c.0, ties_enter ts is.1 c.1)

  reset_enters : (resets : Bool) (o : Option Reset) → IfSome o (λ (r : Reset). IsPin d Input 1 r.pin)
      → IfSome o (λ (r : Reset). Carries T ls v r.pin 1 (reset_input resets r).number) → AllByRecursion Enters (map (reset_input resets) (option_to_list o))
  reset_enters resets None is c = tt
  reset_enters resets (Some r) is c = (enters r.pin 1 (reset_input resets r).number is c, tt)

  all_enter : (a : Map) → IsMapOf d a → (resets : Bool) (row : Row) → CarryRow T ls v a resets row
      → AllByRecursion Enters (entered a resets row)
  all_enter a is resets row c = (
    enters a.clock 1 0 is.clock c.clock,
    each_append Enters (map (reset_input resets) (option_to_list a.reset)) (map tie_input a.ties ++ inputs_from a.channels row 0 a.channels a.plugs)
        (reset_enters resets a.reset is.reset c.reset)
        (each_append Enters (map tie_input a.ties) (inputs_from a.channels row 0 a.channels a.plugs)
        (ties_enter a.ties is.ties c.ties)
        (plugs_enter a.channels row 0 a.channels a.plugs is.plugs
        (λ i j x plug same p q. (let e : i ≡ j = omega (arith, same) in
        subst (λ k. CarryPlug T ls v a.channels row k x.dir x.widths plug) e (c.channels i x plug p q))))),
  )

  pub pins_enter : (a : Map) → IsMapOf d a → (resets : Bool) (row : Row) → AreSmall a.channels row → CarryRow T ls v a resets row
      → ArePins d a resets row inner
  pins_enter a is resets row small c =
      let real = are-pins d a is resets row small in
      let here = All-from_recursion Enters (entered a resets row) (all_enter a is resets row c) in
      let long : length inner ≡ length (input_limits d) =
      inner_long m (at_dut v) ∙ ap (count_by (λ (q : Port). same_direction Input q.direction)) (sym ports) ∙ sym (input-count d) in
      let same : (k : ℕ) → k < length inner → get_or inner k 0 ≡ get_or (map (number_for (entered a resets row)) (range_with_len 0 (length (input_limits d)))) k 0 =
      λ k l.
      (let st = stands d a is resets row k (omega (arith, l, long)) in
      let first : get_or inner st.entry.place 0 ≡ st.entry.number = all-at Enters (entered a resets row) st.index st.entry here st.at in
      let second : get_or (map (number_for (entered a resets row)) (range_with_len 0 (length (input_limits d)))) st.entry.place 0 ≡ st.entry.number =
      all-at (λ (e : PinNumber). get_or (map (number_for (entered a resets row)) (range_with_len 0 (length (input_limits d)))) e.place 0 ≡ e.number)
      (entered a resets row) st.index st.entry real.numbers st.at in
      ap (λ i. get_or inner i 0) (sym st.place) ∙ first ∙ sym second
      ∙ ap (λ i. get_or (map (number_for (entered a resets row)) (range_with_len 0 (length (input_limits d)))) i 0) st.place) in
      let equal = ext_get_or 0 inner (map (number_for (entered a resets row)) (range_with_len 0 (length (input_limits d))))
      (long ∙ sym real.fit.long) same in
      subst (λ xs. ArePins d a resets row xs) (sym equal) real

  -- an output of the design has the number of the net that it is joined to
  module _ (xs : List ℕ) (long : length d.ports ≤ length xs)
      (are : (k : ℕ) (p : Port) → slice_get d.ports k ≡ Some p → get_or xs k 0 ≡ at_dut v p.name) where
    pub out_is : (pin : Pin) (w : ℕ) (y : Name) → IsPin d Output w pin → value_of ls pin.name ≡ Some y → HasNet T y w
        → get_or (pins_of Output d.ports xs) pin.place 0 ≡ v (y ∷ [])
    out_is pin w y p linked net =
        let at : slice_get (flat_ports m (scope_with [] m)) p.port ≡ Some p.p = ap (λ qs. slice_get qs p.port) (sym ports) ∙ p.at in
        let joined : at_dut v p.p.name ≡ v (y ∷ []) = port_joined h settled p.port p.p at y (ap (value_of ls) p.name ∙ linked)
        (subst (λ x. HasNet T y x) (sym p.width_is) net) in
        ap (λ k. get_or (pins_of Output d.ports xs) k 0) p.place
        ∙ pin-at Output d.ports xs p.port p.p p.at (ways Output p.p p.direction_is) long ∙ are p.port p.p p.at ∙ joined
