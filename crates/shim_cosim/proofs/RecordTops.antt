-- A wrapped file's flat design with the top that records: its ports, its clock, and what stands on its ports.
use Rattle.std.proofs.Common.{◌≡◌, ℕ, zero, suc, ◌+◌, ◌<◌, ◌≤◌, ◌^◌, Bool, true, false, List, [], ◌∷◌, ◌++◌, map, length, replicate}
use Rattle.std.proofs.Common.{Some, inl, inr, refl, sym, ap, ◌∙◌, subst, arith, slice_get}
use Rattle.std.specs.Prelude.{codes}
use Rattle.std.specs.List.{flat_map, AllZip, AllByRecursion, Contains}
use Rattle.std.proofs.lemmas.Bool.{ne_eqb}
use Rattle.std.proofs.lemmas.List.{length-append}
use Rattle.std.proofs.lemmas.List.Sums.{sum_by-cons}
use Rattle.std.proofs.lemmas.Nat.{pow_pos}
use Rattle.net_sim.specs.vidi_bits.Number.{IsWidth}
use Rattle.net_sim.proofs.vidi_bits_lemmas.Each.{each_append}
use Rattle.vlog_tree.specs.Tree.{PortOf, ConnOf, ItemOf, PosedgeEvent, ModuleOf, FileOf}
use Rattle.vlog_design.specs.vlog_elab.Instances.{instances}
use Rattle.shim_step.specs.vlog_scope.Scope.{scope_with}
use Rattle.vlog_design.specs.vlog_size.declared.scope.Scope.{Scope}
use Rattle.shim_step.specs.vlog_driver.Names.{Name, Full, State}
use Rattle.shim_step.specs.vlog_driver.Placed.{placed, placed_items}
use Rattle.shim_step.specs.vlog_driver.Settled.{inputs_of, Joins, Waits, IsClock}
use Rattle.net_design.specs.declared.design.Direction.TheVariants.{Input, Output}
use Rattle.net_design.specs.declared.design.Port.{Port}
use Rattle.net_design.specs.declared.design.Design.{Design}
use Rattle.net_design.specs.declared.values.Values.{Values}
use Rattle.net_design.specs.Lawful.{IsLawful, IsState}
use Rattle.net_design.specs.Pins.{is_clock, outputs, FitPins}
use Rattle.net_design.specs.Settled as design
use Rattle.net_design.specs.Settled.{pins_of}
use Rattle.vlog_design.specs.flat_parts.Built.{IsBuilt}
use Rattle.vlog_design.specs.flat_parts.Laws.{IsTop}
use Rattle.vlog_design.specs.flat_parts.Meaning.{values_of, state_of, Means}
use Rattle.replay_run.specs.trace_model.declared.channel.Channel.{Channel}
use Rattle.replay_run.specs.trace_model.declared.channel.Dir.{Dir}
use Rattle.replay_run.specs.trace_model.declared.channel.Dir.TheVariants.{Inward, Outward}
use Rattle.replay_run.specs.trace_model.declared.row.Offers.{Offers}
use Rattle.replay_run.specs.trace_model.Row.{content_at, AreOffers}
use Rattle.replay_run.specs.chan_map.declared.pins.Map.{Map}
use Rattle.replay_run.proofs.run_model_lemmas.Contents.{content-fits}
use Rattle.replay_run.proofs.run_model_lemmas.RowParts.{channel-at}
use Rattle.replay_run.specs.chan_monitor.Entering.{offered}
use Rattle.shim_gen.specs.shim_trees.Pieces.{numbered, ident, net, not_net, both, next, at_clock, each, each_some, conn, gated_content}
use Rattle.shim_gen.specs.shim_trees.Links.{held, tied_ports}
use Rattle.shim_gen.specs.shim_trees.Monitor.{monitor, gates, events}
use Rattle.shim_gen.specs.shim_trees.RecordTop.{record_ports, record_name, record_top, monitor_conns}
use Rattle.shim_gen.specs.shim_trees.Wrapped.{wrapped}
use Rattle.shim_step.specs.Plain.{IsPlain}
use Rattle.shim_step.proofs.Elements.{has_right, has_contains}
use Rattle.shim_step.proofs.Standing.{plain_scope, has_placed}
use Rattle.shim_step.specs.Wrapped.{IsWrapped}
use Rattle.shim_step.specs.Ports.{HasHeld, HasOffer, HasOffers, HasReset}
use Rattle.shim_step.specs.Recording.{IsCycleOf}
use Rattle.shim_step.proofs.Files as files
use Rattle.shim_step.proofs.Monitor.{monitor_plain}
use Rattle.shim_step.proofs.Recorder as recorder
use Rattle.shim_step.proofs.Stand.{child_of}
use Rattle.shim_cosim.specs.Held.{held_numbers, held_number, held_inputs}
use Rattle.shim_cosim.specs.Recorded.{entered_inputs, channel_inputs, row_inputs, side_count, input_count, inputs_count}
use Rattle.shim_cosim.specs.Top.{IsRound}
use Rattle.shim_cosim.proofs.HeldPorts.{keys, tied_fit, tied_headed, tied_outputs, has_held}
use Rattle.shim_cosim.proofs.Ports.{side, side_append, flat, IsHeaded, flat_ports_are, pins_named}
use Rattle.shim_cosim.proofs.Zips.{ways_of, Fits, fit_pins, zip_map, zip_append, zip_split, zip_long}
use Rattle.shim_cosim.proofs.RecordPorts as parts
use Rattle.shim_cosim.proofs.RecordPorts.{AreFit, channels_fit, channel_shows, contents_show, shown, headed}
use Rattle.shim_cosim.proofs.States.{list_of, beside_state, narrow_in, IsMapBeside}

-- ---- inputs of which each is 0
zeros_fit : (ps : List Port) (n : ℕ) → length ps ≡ n → AllZip Fits ps (replicate n 0)
zeros_fit [] zero e = tt
zeros_fit [] (suc n) e = absurd (omega (arith, e))
zeros_fit (p ∷ ps) zero e = absurd (omega (arith, e))
zeros_fit (p ∷ ps) (suc n) e = (pow_pos p.width, zeros_fit ps n (omega (arith, e)))

contents_long : (c k : ℕ) (ws : List ℕ) → length (side Input (parts.contents c Inward k ws)) ≡ length ws
contents_long c k [] = refl
contents_long c k (w ∷ ws) = ap suc (contents_long c (k + 1) ws)

none_long : (c k : ℕ) (ws : List ℕ) → length (side Input (parts.contents c Outward k ws)) ≡ 0
none_long c k [] = refl
none_long c k (w ∷ ws) = none_long c (k + 1) ws

channel_long : (c : ℕ) (x : Channel) (dir : Dir) (ws : List ℕ) → ws ≡ x.widths
    → length (side Input (parts.ports c dir ws)) ≡ 1 + side_count x dir
channel_long c x Inward ws e = (let a = contents_long c 0 ws in let b = ap length e in
    let z : suc (suc (length (side Input (parts.contents c Inward 0 ws)))) ≡ 1 + (1 + length x.widths) = omega (arith, a, b) in z)
channel_long c x Outward ws e = (let a = none_long c 0 ws in
    let z : suc (suc (length (side Input (parts.contents c Outward 0 ws)))) ≡ 2 = omega (arith, a) in z)

pub inputs_long : (k : ℕ) (xs : List Channel) → length (side Input (each_some record_ports k xs)) ≡ inputs_count xs
inputs_long k [] = refl
inputs_long k (x ∷ xs) =
    ap length (side_append Input (record_ports k x) (each_some record_ports (k + 1) xs))
    ∙ length-append (side Input (record_ports k x)) (side Input (each_some record_ports (k + 1) xs))
    ∙ ap (λ n. n + length (side Input (each_some record_ports (k + 1) xs))) (channel_long k x x.dir x.widths refl)
    ∙ ap (λ n. input_count x + n) (inputs_long (k + 1) xs) ∙ sym (sum_by-cons input_count x xs)

zeros_show : (f : Port → ℕ) (ps : List Port) (n : ℕ) → AllZip (λ p k. f p ≡ k) ps (replicate n 0) → AllByRecursion (λ p. f p ≡ 0) ps
zeros_show f [] n z = tt
zeros_show f (p ∷ ps) zero z = absurd z
zeros_show f (p ∷ ps) (suc n) z = (z.0, zeros_show f ps n z.1)

back_all : {X : Type 0} (P : X → Type 0) (xs ys : List X) → AllByRecursion P (xs ++ ys) → AllByRecursion P ys
back_all P [] ys h = h
back_all P (x ∷ xs) ys h = back_all P xs ys h.1

gates_low : (v : Full → ℕ) (k : ℕ) (xs : List Channel) → AllByRecursion (λ (p : Port). v (p.name ∷ []) ≡ 0) (side Input (each_some record_ports k xs))
    → (i c : ℕ) (x : Channel) → slice_get xs i ≡ Some x → c ≡ k + i → v (numbered (codes "g_") c ∷ []) ≡ 0
gates_low v k [] h i c x at e = absurd (cc)
gates_low v k (y ∷ xs) h zero c x at e = ap (λ n. v (numbered (codes "g_") n ∷ [])) (let s : c ≡ k = omega (arith, e) in s) ∙ h.0
gates_low v k (y ∷ xs) h (suc i) c x at e =
    gates_low v (k + 1) xs
    (back_all (λ (p : Port). v (p.name ∷ []) ≡ 0) (side Input (record_ports k y)) (side Input (each_some record_ports (k + 1) xs))
    (subst (AllByRecursion (λ (p : Port). v (p.name ∷ []) ≡ 0)) (side_append Input (record_ports k y) (each_some record_ports (k + 1) xs)) h))
    i c x at (omega (arith, e))

-- ---- the clock
module _ {f : FileOf ℕ} {a : Map} {m : ModuleOf ℕ} {d : Design} (w : IsWrapped f a m d) where
  abbrev T : ModuleOf ℕ
  T = record_top a m.ports

  abbrev clk : Name
  clk = codes "clk"

  module _ (x : Channel) (at : slice_get a.channels 0 ≡ Some x) where
    abbrev M : ModuleOf ℕ
    M = monitor 0 x.widths

    abbrev conns : List (ConnOf ℕ)
    conns = monitor_conns 0 x.dir x.widths

    own : IsPlain (monitor 0 x.widths)
    own = monitor_plain 0 x.widths (files.differ w M (files.monitor_there w 0 x at))

    joins : Joins (files.more_of f a) (record_top a m.ports) (scope_with [] (record_top a m.ports)) (codes "clk")
        (numbered (codes "m_") 0 ∷ []) (monitor 0 x.widths) (scope_with [] (monitor 0 x.widths)) (codes "clk")
    joins = (
      record {
        module_id = record { name = numbered (codes "vidi_m_") 0; line = 0 };
        parameters = [];
        id = record { name = numbered (codes "m_") 0; line = 0 };
        ports = monitor_conns 0 x.dir x.widths;
      },
      monitor 0 x.widths,
      scope_with [] (monitor 0 x.widths),
      codes "clk",
      refl,
      child_of (recorder.top_plain w) (numbered (codes "vidi_m_") 0) (numbered (codes "m_") 0) (monitor_conns 0 x.dir x.widths)
          (recorder.monitor_stands w 0 x at) M (has_contains (files.more_of f a) M (files.monitor_there w 0 x at)) refl,
      (conn clk clk, has_contains conns (conn clk clk) (inl refl), (refl, 0, refl)),
      (refl, refl, refl),
    )

    abbrev block : ItemOf ℕ
    block = at_clock (next (codes "fly") (both (net (codes "kv")) (not_net (codes "kr"))))

    waits : Waits (monitor 0 x.widths) (scope_with [] (monitor 0 x.widths)) (codes "clk")
    waits = (
      record { declared = 0; item = block },
      subst (λ (t : Scope). Contains (placed_items M t) (record { declared = 0; item = block })) (sym (plain_scope M own))
          (has_contains (placed [] 0 M.items) (record { declared = 0; item = block })
          (has_placed M.items block own.items
          (has_right gates (each gated_content 0 x.widths ++ events) block
          (has_right (each gated_content 0 x.widths) events block (inr (inr (inl refl))))))),
      record { line = 0; event = PosedgeEvent (ident (codes "clk")); body = _ },
      ident (codes "clk"),
      refl,
      refl,
      refl,
    )

    clock_of : IsClock (files.more_of f a) (record_top a m.ports) (codes "clk")
    clock_of = (has_contains (inputs_of T) clk (inl refl), (numbered (codes "m_") 0 ∷ [], M, scope_with [] M, clk, joins, waits))

  clock_is : IsClock (files.more_of f a) (record_top a m.ports) (codes "clk")
  clock_is =
      let some = w.mapped.table.some in
      let c = channel-at a.channels 0 (omega (arith, some)) in
      clock_of c.0 c.1

-- ---- the flat design
not_first : (j : ℕ) → 1 ≤ j → is_clock (Some 0) j ≡ false
not_first j l = ne_eqb 0 j (λ e. absurd (omega (arith, l, e)))

module _ {whole : Design} {f : FileOf ℕ} {a : Map} {m : ModuleOf ℕ} {d : Design} (r : IsRound record_name whole f a m d) where
  abbrev w : IsWrapped f a m d
  w = r.wrap

  abbrev Top : ModuleOf ℕ
  Top = record_top a m.ports

  abbrev more : List (ModuleOf ℕ)
  more = files.more_of f a

  abbrev chans : List (PortOf ℕ)
  chans = each_some record_ports 0 a.channels

  abbrev ties : List (PortOf ℕ)
  ties = tied_ports a m.ports

  top_same : r.top.design.top ≡ record_top a m.ports
  top_same = files.top_is r.wrap record_name r.top.design.top (record_top a m.ports) r.top.design.named (files.record_there r.wrap) refl

  pub named : IsTop (wrapped f a) record_name (record_top a m.ports)
  named = subst (IsTop (wrapped f a) record_name) top_same r.top.design.named

  pub built : IsBuilt (files.more_of f a) (record_top a m.ports) (instances (wrapped f a) record_name) whole
  built = subst (λ t. IsBuilt (files.more_of f a) t (instances (wrapped f a) record_name) whole) top_same r.top.design.built

  pub means : Means (files.more_of f a) (record_top a m.ports) whole
  means = subst (λ t. Means (files.more_of f a) t whole) top_same r.top.design.means

  abbrev law : IsLawful whole
  law = r.top.design.lawful

  all_headed : AllByRecursion IsHeaded (record_top a m.ports).ports
  all_headed = ((_, refl), each_append IsHeaded ties chans (tied_headed (held a) m.ports) (headed 0 a.channels))

  pub ports_are : whole.ports ≡ map flat (record_top a m.ports).ports
  ports_are = built.ports ∙ flat_ports_are Top (recorder.top_plain r.wrap) all_headed

  clock_at : whole.clock ≡ Some 0
  clock_at =
      (built.clock 0).1
      (codes "clk", ap (λ ps. slice_get (map (λ (p : Port). p.name) ps) 0) ports_are, clock_is r.wrap)

  abbrev N : Bool → List ℕ
  N resets = flat_map (held_number (held_numbers a resets)) m.ports

  abbrev H : (resets : Bool) → AllZip Fits (side Input (tied_ports a m.ports)) (flat_map (held_number (held_numbers a resets)) m.ports)
  H resets = tied_fit (held a) (held_numbers a resets) (keys r.wrap resets) m.ports

  -- the numbers that are held and numbers that fit the channels' inputs fit the design
  pub fit_inputs : (resets : Bool) (xs : List ℕ) → AllZip Fits (side Input (each_some record_ports 0 a.channels)) xs
      → FitPins whole (held_inputs a resets m.ports ++ xs)
  fit_inputs resets xs z =
      fit_pins whole (codes "clk") _ (map flat (ties ++ chans)) (N resets ++ xs) ports_are
      (λ j l. ap (λ o. is_clock o j) clock_at ∙ not_first j l)
      (subst (λ ps. AllZip Fits ps (N resets ++ xs)) (sym (side_append Input ties chans))
      (zip_append Fits (side Input ties) (side Input chans) (N resets) xs (H resets) z))

  pub zero_inputs : AllZip Fits (side Input (each_some record_ports 0 a.channels)) (replicate (inputs_count a.channels) 0)
  zero_inputs = zeros_fit (side Input chans) (inputs_count a.channels) (inputs_long 0 a.channels)

  pub are_fit : (offers : Offers) (gates : ℕ) → AreOffers a.channels offers → AreFit a.channels (offered gates offers) 0 a.channels
  are_fit offers gates are i c x at e =
      let place : i ≡ c = omega (arith, e) in
      let here : slice_get a.channels c ≡ Some x = ap (slice_get a.channels) (sym place) ∙ at in
      (widths_from x.widths (λ k n h. recorder.content_width r.wrap c x here k n h), content-fits a.channels offers.contents are.contents c x here)
    where
      widths_from : (ws : List ℕ) → ((k n : ℕ) → slice_get ws k ≡ Some n → IsWidth n) → AllByRecursion IsWidth ws
      widths_from [] h = tt
      widths_from (u ∷ ws) h = (h 0 u refl, widths_from ws (λ k n e. h (suc k) n e))

  -- ---- a settled list
  module _ (full : State) {state : Values} (state_is : state_of whole full ≡ state) (is : IsState whole state)
      (narrow : (name : Full) (k : ℕ) → full.words name k < 2 ^ 128) {inputs : List ℕ} {V : Values}
      (settled : design.IsSettled whole state inputs V) where
    abbrev pub beside : IsMapBeside whole full V
    beside =
        beside_state whole full state V state_is settled.keeps.words
        (list_of (wrapped f a) record_name (record_top a m.ports) whole r.top.clear.0 named built r.top.design.lawful V settled.keeps.fit.long
        (ap length settled.keeps.words ∙ is.words))

    abbrev pub v : Full → ℕ
    v = beside.nets

    abbrev number : Port → ℕ
    number p = v (p.name ∷ [])

    pub settled_there : design.IsSettled whole (state_of whole full) inputs (values_of whole v full.words)
    settled_there =
        subst (λ u. design.IsSettled whole u inputs (values_of whole v full.words)) (sym state_is)
        (subst (design.IsSettled whole state inputs) (sym beside.is) settled)

    pub cycle : IsCycleOf (wrapped f a) record_name (record_top a m.ports) full inputs v
    cycle =
        let small = narrow_in (files.more_of f a) (record_top a m.ports) full.words narrow in
        record { named = named; settled = (means.settled full inputs v small).0 settled_there; narrow = small }

    inputs_are : map number (side Input (record_top a m.ports).ports) ≡ inputs
    inputs_are =
        ap (λ ps. map number (ways_of Input ps)) (sym ports_are)
        ∙ sym (pins_named whole r.top.design.lawful v full.words Input)
        ∙ ap (λ (u : Values). pins_of Input whole.ports u.nets) beside.is ∙ settled.inputs

    -- the outputs are those of the channels
    pub outputs_are : outputs whole V ≡ shown v (each_some record_ports 0 a.channels)
    outputs_are =
        ap (λ (u : Values). pins_of Output whole.ports u.nets) (sym beside.is)
        ∙ pins_named whole r.top.design.lawful v full.words Output
        ∙ ap (λ ps. map number (ways_of Output ps)) ports_are
        ∙ ap (map number) (side_append Output ties chans)
        ∙ ap (λ ps. map number (ps ++ side Output chans)) (tied_outputs (held a) m.ports)

    -- what stands on the inputs
    module _ (resets : Bool) (xs : List ℕ) (is_held : inputs ≡ held_inputs a resets m.ports ++ xs) where
      zipped : AllZip (λ p n. number p ≡ n) (side Input (record_top a m.ports).ports) (held_inputs a resets m.ports ++ xs)
      zipped = zip_map number (side Input (record_top a m.ports).ports) (held_inputs a resets m.ports ++ xs) (inputs_are ∙ is_held)

      sides : AllZip (λ p n. number p ≡ n) (side Input ties) (N resets) × AllZip (λ p n. number p ≡ n) (side Input chans) xs
      sides =
          zip_split (λ p n. number p ≡ n) (side Input ties) (side Input chans) (N resets) xs
          (zip_long Fits (side Input ties) (N resets) (H resets))
          (subst (λ ps. AllZip (λ p n. number p ≡ n) ps (N resets ++ xs)) (side_append Input ties chans) zipped.1)

      pub is_holding : HasHeld a resets v
      is_holding = has_held r.wrap resets v sides.0 zipped.0

      pub on_channels : AllZip (λ (p : Port) n. v (p.name ∷ []) ≡ n) (side Input (each_some record_ports 0 a.channels)) xs
      on_channels = sides.1

    -- offers and gates
    module _ (offers : Offers) (gates : ℕ) (are : AreOffers a.channels offers)
        (entered : inputs ≡ held_inputs a false m.ports ++ row_inputs a.channels (offered gates offers)) where
      offer_on : (c : ℕ) (dir : Dir) (ws : List ℕ)
          → AllZip (λ (p : Port) n. v (p.name ∷ []) ≡ n) (side Input (parts.ports c dir ws))
          (entered_inputs (offered gates offers) c (content_at a.channels offers.contents c) dir)
          → HasOffer v a.channels offers c dir ws
      offer_on c Inward ws z =
          (z.1.0, λ up i n at. contents_show a.channels (offered gates offers) v c 0 ws (content_at a.channels offers.contents c) z.1.1 i i n at (omega arith))
      offer_on c Outward ws z = z.1.0

      on_channel : (c : ℕ) (x : Channel) → slice_get a.channels c ≡ Some x
          → AllZip (λ (p : Port) n. v (p.name ∷ []) ≡ n) (side Input (record_ports c x)) (channel_inputs a.channels (offered gates offers) c x)
      on_channel c x at =
          channel_shows a.channels (offered gates offers) v 0 a.channels (are_fit offers gates are)
          (on_channels false (row_inputs a.channels (offered gates offers)) entered) c c x at (omega arith)

      pub has_offers : HasOffers a offers gates v
      has_offers = record {
        held = is_holding false (row_inputs a.channels (offered gates offers)) entered;
        gate = λ c x at. (on_channel c x at).0;
        offered = λ c x at. offer_on c x.dir x.widths (on_channel c x at);
      }

    -- a reset cycle
    pub has_reset : inputs ≡ held_inputs a true m.ports ++ replicate (inputs_count a.channels) 0 → HasReset a v
    has_reset entered = record {
      held = is_holding true (replicate (inputs_count a.channels) 0) entered;
      gate = λ c x at.
          gates_low v 0 a.channels
          (zeros_show number (side Input chans) (inputs_count a.channels) (on_channels true (replicate (inputs_count a.channels) 0) entered))
          c c x at (omega arith);
    }
