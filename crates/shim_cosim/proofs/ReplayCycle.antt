-- A wrapped file's flat design with the top that replays: its inputs, a cycle, reset cycles and the initial state, against the design inside.
use Rattle.std.proofs.Common.{◌≡◌, ℕ, zero, suc, ◌+◌, ◌<◌, ◌≤◌, ◌^◌, Bool, true, false, List, [], ◌∷◌, ◌++◌, map, length, replicate}
use Rattle.std.proofs.Common.{Option, None, Some, refl, sym, ap, ◌∙◌, subst, arith, inl, inr, slice_get, cond, if◌then◌else◌}
use Rattle.std.specs.Prelude.{codes, count_by, MatchOption}
use Rattle.std.specs.List.{AllZip, AllByRecursion, Contains, flat_map, range_with_len}
use Rattle.std.proofs.lemmas.List.{length-append, length-map}
use Rattle.std.proofs.lemmas.Nat.{pow_pos}
use Rattle.net_sim.specs.vidi_bits.Number.{has}
use Rattle.net_sim.proofs.vidi_bits_lemmas.Each.{each_append}
use Rattle.vlog_tree.specs.Tree.{PortOf, ModuleOf, FileOf}
use Rattle.shim_step.specs.vlog_scope.Scope.{scope_with}
use Rattle.shim_step.specs.vlog_driver.Names.{Full, State}
use Rattle.shim_step.specs.vlog_driver.Next.{IsNext}
use Rattle.shim_step.specs.vlog_driver.Settled as meaning
use Rattle.net_design.specs.declared.design.Design.{Design}
use Rattle.net_design.specs.declared.design.Direction.{Direction}
use Rattle.net_design.specs.declared.design.Direction.TheVariants.{Input, Output}
use Rattle.net_design.specs.declared.design.Port.{Port}
use Rattle.net_design.specs.declared.values.Values.{Values}
use Rattle.net_design.specs.Lawful.{IsState}
use Rattle.net_design.specs.Pins.{outputs, input_limits, FitPins}
use Rattle.net_design.specs.Pins as pins
use Rattle.net_design.specs.Settled.{initial, next, pins_of, same_direction, IsSettled}
use Rattle.net_design.proofs.StateLaws.{initial_state, next_state}
use Rattle.vlog_design.specs.flat_parts.Meaning.{state_of}
use Rattle.vlog_design.specs.flat_parts.Nets.{flat_ports}
use Rattle.replay_run.specs.trace_model.declared.channel.Channel.{Channel}
use Rattle.replay_run.specs.trace_model.declared.channel.Dir.{Dir}
use Rattle.replay_run.specs.trace_model.declared.channel.Dir.TheVariants.{Inward, Outward}
use Rattle.replay_run.specs.trace_model.declared.row.Row.{Row}
use Rattle.replay_run.specs.trace_model.declared.packet.TheConstants.{MOST_CYCLES}
use Rattle.replay_run.specs.trace_model.Row.{row_before, flies_after}
use Rattle.replay_run.proofs.trace_model_lemmas.CountingLemmas.{count-cons}
use Rattle.replay_run.specs.chan_map.declared.pins.Map.{Map}
use Rattle.replay_run.specs.chan_map.declared.pins.Reset.{Reset}
use Rattle.replay_run.specs.run_model.Building.{number_for}
use Rattle.replay_run.specs.run_model.Pins.{entered, silent, ArePins}
use Rattle.replay_run.specs.run_model.Step as run
use Rattle.replay_run.specs.run_model.Step.{IsStep, IsAfter, IsAfterReset, IsFirst}
use Rattle.replay_run.proofs.run_model_lemmas.PinLemmas.{are-pins, one-list}
use Rattle.replay_run.proofs.run_model_lemmas.PlayedLaws.{silent-small}
use Rattle.replay_run.specs.chan_replayer.declared.feed.Feed.{Feed}
use Rattle.replay_run.specs.chan_replayer.Feed.{IsFeedOver}
use Rattle.replay_run.specs.chan_replayer.Shell.{IsShown}
use Rattle.shim_gen.specs.shim_trees.Pieces.{numbered, numbered_twice, each_some, input}
use Rattle.shim_gen.specs.shim_trees.Links.{held, tied_ports}
use Rattle.shim_gen.specs.shim_trees.ReplayTop.{fed_ports, shown_ports, replay_ports, replay_name, replay_top}
use Rattle.shim_gen.specs.shim_trees.Wrapped.{wrapped}
use Rattle.shim_step.specs.Part.{pins_below}
use Rattle.shim_step.proofs.Elements.{Has}
use Rattle.shim_step.specs.Wrapped.{IsWrapped, DUT, Counts}
use Rattle.shim_step.specs.Ports.{HasFeed, HasNoFeed}
use Rattle.shim_step.specs.Recording.{own_state, IsCycleOf}
use Rattle.shim_step.specs.Replaying.{Replays}
use Rattle.shim_step.proofs.Files as files
use Rattle.shim_step.proofs.Lists.{has_some, all_each, all_upto, all_some}
use Rattle.shim_step.proofs.Replayed.{top_plain}
use Rattle.shim_step.proofs.Replaying.{replays_rows}
use Rattle.shim_step.proofs.ReplayResets.{replays_resets, replays_begin}
use Rattle.shim_cosim.specs.Top.{IsRound}
use Rattle.shim_cosim.specs.Held.{held_numbers, held_number, held_inputs}
use Rattle.shim_cosim.specs.Rewrapped.{inputs_count, outputs_count, feed_inputs, replay_row, AreSmallNeeds}
use Rattle.shim_cosim.specs.Rewrapped as spec
use Rattle.shim_cosim.proofs.Ports.{flat, side, side_append, flat_ports_are, pins_named, IsHeaded}
use Rattle.shim_cosim.proofs.Zips.{ways_of, zip_map, zip_append, zip_split, zip_long, fit_pins, Fits}
use Rattle.shim_cosim.proofs.States.{IsFull, IsMapBeside, full_of, list_of, narrow_in, beside_state}
use Rattle.shim_cosim.proofs.HeldPorts.{keys, tied_fit, tied_headed, tied_outputs, has_held}
use Rattle.shim_cosim.proofs.Sides.{in_port}
use Rattle.shim_cosim.proofs.FeedPorts.{in_ports, need_inputs, fed_inputs, ins_channels, feed_fits, more_is, need_is, content_is}
use Rattle.shim_cosim.proofs.ReplayClock.{clk_is_clock, others_are_none}
use Rattle.shim_cosim.proofs.ReplayRow.{out_ports, out_long, outs_channels, some_length, are_outputs, row_is, AreOutputs}
use Rattle.shim_cosim.proofs.Pieces.{length_upto, length_each}

-- ---- heads
headed_sides : (n c : ℕ) (dir : Dir) (ws : List ℕ) → AllByRecursion IsHeaded (fed_ports c dir ws)
headed_sides n c Inward ws = all_each IsHeaded _ (λ i w. (_, refl)) 0 ws
headed_sides n c Outward ws = tt

headed_shown : (c : ℕ) (dir : Dir) (ws : List ℕ) → AllByRecursion IsHeaded (shown_ports c dir ws)
headed_shown c Inward ws = tt
headed_shown c Outward ws = all_each IsHeaded _ (λ i w. (_, refl)) 0 ws

headed_channel : (n c : ℕ) (x : Channel) → AllByRecursion IsHeaded (replay_ports n c x)
headed_channel n c x = (
  (_, refl),
  each_append IsHeaded _ _ (all_upto IsHeaded _ (λ j. (_, refl)) 0 n)
      (each_append IsHeaded (fed_ports c x.dir x.widths) _ (headed_sides n c x.dir x.widths)
      ((_, refl), ((_, refl), ((_, refl), headed_shown c x.dir x.widths)))),
)

-- ---- how many inputs
fed_long : (c : ℕ) (dir : Dir) (ws : List ℕ) → length (fed_inputs c dir ws) ≡ length (spec.if_inward ws dir)
fed_long c Inward ws = length_each _ 0 ws
fed_long c Outward ws = refl

in_long : (n c : ℕ) (x : Channel) → length (in_ports n c x) ≡ spec.input_count n x
in_long n c x =
    let a = length_upto (λ j. in_port (numbered_twice (codes "n_") c j) 32) 0 n in
    let b = fed_long c x.dir x.widths in
    let d = length-append (need_inputs n c) (fed_inputs c x.dir x.widths) in
    omega (arith, a, b, d)

count_way : (b : Bool) (p : Port) (ps : List Port) (k : ℕ) → k ≡ length ps → cond b 1 0 + k ≡ length (if b then p ∷ ps else ps)
count_way true p ps k e = omega (arith, e)
count_way false p ps k e = omega (arith, e)

count_ways : (way : Direction) (ps : List Port) → count_by (λ (p : Port). same_direction way p.direction) ps ≡ length (ways_of way ps)
count_ways way [] = refl
count_ways way (p ∷ ps) =
    count-cons (λ (q : Port). same_direction way q.direction) p ps
    ∙ count_way (same_direction way p.direction) p (ways_of way ps) (count_by (λ (q : Port). same_direction way q.direction) ps) (count_ways way ps)

-- zeros
zip_zeros : {X : Type 0} (R : X → ℕ → Type 0) (xs : List X) (n : ℕ) → length xs ≡ n → ((x : X) → R x 0) → AllZip R xs (replicate n 0)
zip_zeros R [] zero e h = tt
zip_zeros R [] (suc n) e h = absurd (omega (arith, e))
zip_zeros R (x ∷ xs) zero e h = absurd (omega (arith, e))
zip_zeros R (x ∷ xs) (suc n) e h = (h x, zip_zeros R xs n (omega (arith, e)) h)

of_zeros : {X : Type 0} (R : X → ℕ → Type 0) (xs : List X) (n : ℕ) → AllZip R xs (replicate n 0) → (x : X) → Has xs x → R x 0
of_zeros R [] n z x h = absurd h
of_zeros R (y ∷ xs) zero z x h = absurd z
of_zeros {X} R (y ∷ xs) (suc n) z x (inl e) = subst (λ (u : X). R u 0) e z.0
of_zeros R (y ∷ xs) (suc n) z x (inr h) = of_zeros R xs n z.1 x h

module _ {file : FileOf ℕ} {a : Map} {tree : ModuleOf ℕ} {d whole : Design} (round : IsRound replay_name whole file a tree d) where
  w : IsWrapped file a tree d
  w = round.wrap

  abbrev n : ℕ
  n = length a.channels

  abbrev T : ModuleOf ℕ
  T = replay_top a tree.ports

  abbrev modules : List (ModuleOf ℕ)
  modules = (wrapped file a).modules

  abbrev ties : List (PortOf ℕ)
  ties = tied_ports a tree.ports

  abbrev chans : List (PortOf ℕ)
  chans = each_some (replay_ports (length a.channels)) 0 a.channels

  same : round.top.design.top ≡ replay_top a tree.ports
  same = files.top_is w replay_name round.top.design.top T round.top.design.named (files.replay_there w) refl

  headed : AllByRecursion IsHeaded (replay_top a tree.ports).ports
  headed = (
    (_, refl),
    each_append IsHeaded ties chans (tied_headed (held a) tree.ports)
        (all_some IsHeaded (replay_ports (length a.channels)) (λ i c. headed_channel n i c) 0 a.channels),
  )

  pub ports_are : whole.ports ≡ map flat (replay_top a tree.ports).ports
  ports_are =
      round.top.design.built.ports ∙ ap (λ (t : ModuleOf ℕ). flat_ports t (scope_with [] t)) same
      ∙ flat_ports_are T (top_plain w) headed

  ins_are : ways_of Input whole.ports ≡ flat (input (codes "clk") 1) ∷ (side Input ties ++ each_some (in_ports (length a.channels)) 0 a.channels)
  ins_are =
      ap (ways_of Input) ports_are
      ∙ ap (λ ps. flat (input (codes "clk") 1) ∷ ps) (side_append Input ties chans ∙ ap (λ ps. side Input ties ++ ps) (ins_channels n 0 a.channels))

  outs_are : ways_of Output whole.ports ≡ each_some out_ports 0 a.channels
  outs_are =
      ap (ways_of Output) ports_are ∙ side_append Output ties chans
      ∙ ap (λ ps. ps ++ side Output chans) (tied_outputs (held a) tree.ports) ∙ outs_channels n 0 a.channels

  -- ---- the clock
  input_there : Contains (meaning.inputs_of (replay_top a tree.ports)) (codes "clk")
  input_there = (0, omega arith, refl)

  clock_is : whole.clock ≡ Some 0
  clock_is =
      (round.top.design.built.clock 0).1 (
        codes "clk",
        ap (λ ps. slice_get (map (λ (p : Port). p.name) ps) 0) ports_are,
        subst (λ (t : ModuleOf ℕ). meaning.IsClock modules t (codes "clk")) (sym same) (clk_is_clock w input_there),
      )

  -- ---- how many outputs
  pub outputs_many : pins.output_count whole ≡ outputs_count a.channels
  outputs_many =
      count_ways Output whole.ports ∙ ap length outs_are
      ∙ sym (length-map (each_some out_ports 0 a.channels) (λ (p : Port). p.width))
      ∙ some_length (λ (p : Port). p.width) out_ports spec.output_count out_long 0 a.channels

  -- ---- numbers that fit
  chans_long : length (each_some (in_ports (length a.channels)) 0 a.channels) ≡ inputs_count a.channels
  chans_long =
      sym (length-map (each_some (in_ports n) 0 a.channels) (λ (p : Port). p.width))
      ∙ some_length (λ (p : Port). p.width) (in_ports n) (spec.input_count n) (in_long n) 0 a.channels

  held_fit : (resets : Bool) → AllZip Fits (side Input (tied_ports a tree.ports)) (flat_map (held_number (held_numbers a resets)) tree.ports)
  held_fit resets = tied_fit (held a) (held_numbers a resets) (keys w resets) tree.ports

  fit_by : (resets : Bool) (xs : List ℕ) → AllZip Fits (each_some (in_ports (length a.channels)) 0 a.channels) xs
      → FitPins whole (held_inputs a resets tree.ports ++ xs)
  fit_by resets xs fit =
      fit_pins whole (codes "clk") _ (map flat (ties ++ chans)) (flat_map (held_number (held_numbers a resets)) tree.ports ++ xs) ports_are
      (others_are_none whole.clock clock_is)
      (subst (λ ps. AllZip Fits ps (flat_map (held_number (held_numbers a resets)) tree.ports ++ xs))
      (sym (side_append Input ties chans ∙ ap (λ ps. side Input ties ++ ps) (ins_channels n 0 a.channels)))
      (zip_append Fits (side Input ties) (each_some (in_ports n) 0 a.channels) (flat_map (held_number (held_numbers a resets)) tree.ports) xs
      (held_fit resets) fit))

  pub fed_pins_fit : (feed : Feed) → IsFeedOver a.channels feed → AreSmallNeeds a.channels feed
      → FitPins whole (held_inputs a false tree.ports ++ feed_inputs a.channels feed)
  fed_pins_fit feed over small = fit_by false (feed_inputs a.channels feed) (feed_fits a.channels feed over w.mapped.table small)

  pub reset_pins_fit : FitPins whole (held_inputs a true tree.ports ++ replicate (inputs_count a.channels) 0)
  reset_pins_fit =
      fit_by true (replicate (inputs_count a.channels) 0)
      (zip_zeros Fits (each_some (in_ports n) 0 a.channels) (inputs_count a.channels) chans_long (λ p. pow_pos p.width))

  -- ---- a settled cycle
  module _ {state v : Values} {inputs : List ℕ} (full : State) (narrow : (name : Full) (k : ℕ) → full.words name k < 2 ^ 128)
      (state_is : state_of whole full ≡ state) (is_state : IsState whole state) (settled : IsSettled whole state inputs v) where
    pub beside : IsMapBeside whole full v
    beside =
        beside_state whole full state v state_is settled.keeps.words
        (list_of (wrapped file a) replay_name round.top.design.top whole round.top.clear.0 round.top.design.named round.top.design.built
        round.top.design.lawful v settled.keeps.fit.long (ap length settled.keeps.words ∙ is_state.words))

    abbrev pub nets : Full → ℕ
    nets = beside.nets

    pub cycle : IsCycleOf (wrapped file a) replay_name round.top.design.top full inputs nets
    cycle = record {
      named = round.top.design.named;
      settled = (round.top.design.means.settled full inputs nets (narrow_in modules round.top.design.top full.words narrow)).0
          (subst (λ (u : Values). IsSettled whole (state_of whole full) inputs u) (sym beside.is)
          (subst (λ (t : Values). IsSettled whole t inputs v) (sym state_is) settled));
      narrow = narrow_in modules round.top.design.top full.words narrow;
    }

    abbrev Shows : Port → ℕ → Type 0
    Shows p k = nets (p.name ∷ []) ≡ k

    shows : AllZip Shows (ways_of Input whole.ports) inputs
    shows =
        zip_map (λ (p : Port). nets (p.name ∷ [])) (ways_of Input whole.ports) inputs
        (sym (pins_named whole round.top.design.lawful nets full.words Input)
        ∙ ap (λ (u : Values). pins_of Input whole.ports u.nets) beside.is ∙ settled.inputs)

    split : (resets : Bool) (xs : List ℕ) → inputs ≡ held_inputs a resets tree.ports ++ xs
        → (nets (codes "clk" ∷ []) ≡ 0)
        × AllZip Shows (side Input (tied_ports a tree.ports)) (flat_map (held_number (held_numbers a resets)) tree.ports)
        × AllZip Shows (each_some (in_ports (length a.channels)) 0 a.channels) xs
    split resets xs e =
        let all : AllZip Shows (flat (input (codes "clk") 1) ∷ (side Input ties ++ each_some (in_ports n) 0 a.channels))
        (0 ∷ (flat_map (held_number (held_numbers a resets)) tree.ports ++ xs)) =
        subst (λ ps. AllZip Shows ps (0 ∷ (flat_map (held_number (held_numbers a resets)) tree.ports ++ xs))) ins_are
        (subst (AllZip Shows (ways_of Input whole.ports)) e shows) in
        let both = zip_split Shows (side Input ties) (each_some (in_ports n) 0 a.channels) (flat_map (held_number (held_numbers a resets)) tree.ports) xs
        (zip_long Fits (side Input ties) (flat_map (held_number (held_numbers a resets)) tree.ports) (held_fit resets)) all.1 in
        (all.0, both.0, both.1)

    pub has_feed : (feed : Feed) → IsFeedOver a.channels feed → inputs ≡ held_inputs a false tree.ports ++ feed_inputs a.channels feed
        → HasFeed a feed nets
    has_feed feed over e =
        let s = split false (feed_inputs a.channels feed) e in
        record {
          held = has_held w false nets s.1 s.0;
          more = λ c x at. more_is a.channels feed over nets s.2 c x at;
          need = λ c x at j l. need_is a.channels feed over nets s.2 c x at j l;
          content = λ c x at. content_is a.channels feed over nets s.2 c x at;
        }

    pub has_no_feed : inputs ≡ held_inputs a true tree.ports ++ replicate (inputs_count a.channels) 0 → HasNoFeed a nets
    has_no_feed e =
        let s = split true (replicate (inputs_count a.channels) 0) e in
        record {
          held = has_held w true nets s.1 s.0;
          more = λ c x at.
              of_zeros Shows (each_some (in_ports n) 0 a.channels) (inputs_count a.channels) s.2 (in_port (numbered (codes "more_") c) 1)
              (has_some (in_ports n) 0 a.channels c x c (in_port (numbered (codes "more_") c) 1) (omega arith) at (inl refl));
        }

    pub outputs_are : AreOutputs a.channels nets (outputs whole v)
    outputs_are =
        subst (AreOutputs a.channels nets)
        (ap (map (λ (p : Port). nets (p.name ∷ []))) (sym outs_are)
        ∙ sym (pins_named whole round.top.design.lawful nets full.words Output)
        ∙ ap (λ (u : Values). pins_of Output whole.ports u.nets) beside.is)
        (are_outputs a.channels nets)

    -- the next state
    pub goes_on : IsFull whole (next whole v state)
    goes_on =
        full_of (wrapped file a) replay_name round.top.design.top whole round.top.clear.0 round.top.design.named round.top.design.built
        round.top.design.lawful (next whole v state) (next_state whole round.top.design.lawful v state is_state)

    pub next_is : IsNext (wrapped file a).modules round.top.design.top full nets goes_on.full
    next_is =
        (round.top.design.means.next full goes_on.full nets).0
        (ap (λ (u : Values). next whole u (state_of whole full)) beside.is ∙ ap (next whole v) state_is ∙ sym goes_on.is)

  -- ---- the design inside, under a feed
  module _ {state v : Values} {inputs : List ℕ} (full : State) (narrow : (name : Full) (k : ℕ) → full.words name k < 2 ^ 128)
      (state_is : state_of whole full ≡ state) (is_state : IsState whole state) (settled : IsSettled whole state inputs v)
      (rows : List Row) (few : length rows ≤ MOST_CYCLES) (counts : Counts a rows full) (feed : Feed) (over : IsFeedOver a.channels feed)
      (entered_is : inputs ≡ held_inputs a false tree.ports ++ feed_inputs a.channels feed) (flight : ℕ)
      (flies : (c : ℕ) → has flight c ≡ flies_after (row_before rows (length rows)) c) (fresh : Bool) where
    found : (row : Row) × (row.fresh ≡ fresh) × Replays file a d round.top.design.top full (nets full narrow state_is is_state settled) rows feed row
    found =
        replays_rows file a tree d w round.top.design.top full inputs (nets full narrow state_is is_state settled)
        (cycle full narrow state_is is_state settled) rows few counts feed over
        (has_feed full narrow state_is is_state settled feed over entered_is) fresh

    row_same : replay_row a.channels fresh flight feed (outputs whole v) ≡ found.0
    row_same =
        ap (λ b. replay_row a.channels b flight feed (outputs whole v)) (sym found.1)
        ∙ row_is a (nets full narrow state_is is_state settled) (outputs whole v) (outputs_are full narrow state_is is_state settled) flight feed rows
        found.0 found.2.shown.over found.2.shown.marked found.2.shown.gates_are found.2.shown.fed found.2.ports flies

    pub shown : IsShown d a (own_state d full) rows feed (replay_row a.channels fresh flight feed (outputs whole v))
    shown = subst (λ (r : Row). IsShown d a (own_state d full) rows feed r) (sym row_same) found.2.shown

    pub stepped : IsStep d a (own_state d full) (replay_row a.channels fresh flight feed (outputs whole v))
        (own_state d (goes_on full narrow state_is is_state settled).full)
        × Counts a (rows ++ replay_row a.channels fresh flight feed (outputs whole v) ∷ []) (goes_on full narrow state_is is_state settled).full
    stepped =
        let after = goes_on full narrow state_is is_state settled in
        let r = found.2.next after.full (next_is full narrow state_is is_state settled) in
        subst (λ (row : Row). IsStep d a (own_state d full) row (own_state d after.full) × Counts a (rows ++ row ∷ []) after.full) (sym row_same) r

  -- ---- reset cycles
  -- nothing has completed, and the design inside has had so many reset cycles
  pub record IsBegun (pins : List ℕ) (k : ℕ) (state : Values) : Type 0 where
    pub full : State
    pub narrow : (name : Full) (j : ℕ) → full.words name j < 2 ^ 128
    pub is : state_of whole full ≡ state
    pub counts : Counts a [] full
    pub after : IsAfter d pins k (initial d) (own_state d full)

  pub begun : (pins : List ℕ) → IsBegun pins 0 (initial whole)
  begun pins =
      let f = full_of (wrapped file a) replay_name round.top.design.top whole round.top.clear.0 round.top.design.named round.top.design.built
      round.top.design.lawful (initial whole) (initial_state whole round.top.design.lawful) in
      let b = replays_begin file a tree d w round.top.design.top round.top.design.named f.full ((round.top.design.means.initial f.full).0 (sym f.is)) in
      record { full = f.full; narrow = f.narrow; is = f.is; counts = b.1; after = sym b.0 }

  abbrev quiet : List ℕ
  quiet = held_inputs a true tree.ports ++ replicate (inputs_count a.channels) 0

  abbrev inner : List ℕ
  inner = map (number_for (entered a true silent)) (range_with_len 0 (length (input_limits d)))

  inner_pins : ArePins d a true silent inner
  inner_pins = are-pins d a w.mapped true silent (silent-small a.channels)

  more_reset : (k : ℕ) (between after : Values) → IsState whole between → IsBegun inner k between → run.IsNext whole quiet between after
      → IsBegun inner (suc k) after
  more_reset k between after is_state b goes =
      let full = b.full in
      let law = replays_resets file a tree d w round.top.design.top full quiet (nets full b.narrow b.is is_state goes.settled)
      (cycle full b.narrow b.is is_state goes.settled) b.counts (has_no_feed full b.narrow b.is is_state goes.settled refl) in
      let later = goes_on full b.narrow b.is is_state goes.settled in
      let r = law.1 later.full (next_is full b.narrow b.is is_state goes.settled) in
      let pins_are : pins_below tree DUT (nets full b.narrow b.is is_state goes.settled) ≡ inner =
      one-list d a w.mapped true silent silent refl (pins_below tree DUT (nets full b.narrow b.is is_state goes.settled)) inner law.0 inner_pins in
      record {
        full = later.full;
        narrow = later.narrow;
        is = later.is ∙ sym goes.next;
        counts = r.1;
        after = (
          own_state d full,
          b.after,
          subst (λ ps. run.IsNext d ps (own_state d full) (own_state d later.full)) pins_are r.0,
        );
      }

  pub all_reset : (k : ℕ) (state : Values) → IsAfter whole quiet k (initial whole) state → IsBegun inner k state × IsState whole state
  all_reset zero state h =
      (subst (IsBegun inner 0) (sym h) (begun inner), subst (IsState whole) (sym h) (initial_state whole round.top.design.lawful))
  all_reset (suc k) state h =
      let before = all_reset k h.0 h.1 in (
        more_reset k h.0 state before.1 before.0 h.2,
        subst (IsState whole) (sym h.2.next) (next_state whole round.top.design.lawful h.2.v h.0 before.1),
      )

  -- the first state of the design inside
  first_by : (o : Option Reset) → a.reset ≡ o → (cycles : ℕ) → MatchOption o (cycles ≡ 0) (λ r. cycles ≡ r.cycles) → (s : Values)
      → IsAfter d inner cycles (initial d) s → IsAfterReset d a o s
  first_by None e zero c s h = h
  first_by None e (suc k) c s h = absurd (omega (arith, c))
  first_by (Some r) e cycles c s h = (inner, inner_pins, subst (λ k. IsAfter d inner k (initial d) s) c h)

  pub first : (cycles : ℕ) → MatchOption a.reset (cycles ≡ 0) (λ r. cycles ≡ r.cycles) → (s : Values) → IsAfter d inner cycles (initial d) s
      → IsFirst d a s
  first cycles c s h = first_by a.reset refl cycles c s h
