-- A wrapped design that runs as a shell: what is known of it, and what its calls make of it.
use Rattle.std.proofs.Common.{◌≡◌, ℕ, suc, ◌+◌, ◌<◌, ◌≤◌, ◌^◌, Bool, true, false, if◌then◌else◌, List, [], ◌∷◌, ◌++◌, length, take}
use Rattle.std.proofs.Common.{Option, Some, None, count_by, replicate, cond, refl, sym, ap, ◌∙◌, subst, arith}
use Rattle.std.specs.Prelude.{MatchOption}
use Rattle.std.specs.List.{find}
use Rattle.std.specs.Str.{bytes_eq}
use Rattle.std.proofs.Math.Logic.{∥∥₁_elim, ∥∥₁_map}
use Rattle.std.proofs.Props.{props}
use Rattle.std.proofs.lemmas.List.{length-append, length-map, length-replicate, length-take-le, take_at}
use Rattle.vlog_tree.specs.Tree.{ModuleOf, FileOf}
use Rattle.net_design.specs.declared.design.Port.{Port}
use Rattle.net_design.specs.declared.design.Direction.{Direction}
use Rattle.net_design.specs.declared.design.Direction.TheVariants.{Output}
use Rattle.net_design.specs.declared.design.Design.{Design}
use Rattle.net_design.specs.declared.values.Values.{Values}
use Rattle.net_design.specs.Lawful.{IsState}
use Rattle.net_design.specs.Pins.{output_count as design_count, outputs, FitPins}
use Rattle.net_design.specs.Settled as design
use Rattle.net_design.specs.Settled.{same_direction}
use Rattle.net_sim.proofs.net_order_lemmas.OneMap.{has_one_map}
use Rattle.vlog_design.proofs.flat_parts_lemmas.Found.{no_twice}
use Rattle.replay_run.specs.trace_model.declared.row.Offers.{Offers}
use Rattle.replay_run.specs.trace_model.declared.row.Row.{Row}
use Rattle.replay_run.specs.trace_model.Row.{AreOffers}
use Rattle.replay_run.proofs.trace_model_lemmas.CountingLemmas.{count-cons}
use Rattle.replay_run.specs.chan_map.declared.pins.Map.{Map}
use Rattle.replay_run.specs.chan_map.declared.pins.Reset.{Reset}
use Rattle.replay_run.specs.run_model.Step.{IsAfter, IsFirst, IsStep}
use Rattle.replay_run.proofs.run_model_lemmas.PlayedLaws.{ports-are_nets}
use Rattle.replay_run.specs.run_model.Offers.{AreZeroWhileDown}
use Rattle.replay_run.specs.chan_monitor.Entering.{offered}
use Rattle.replay_run.specs.chan_monitor.Shell.{IsRunning}
use Rattle.shim_gen.specs.shim_trees.Pieces.{each_some}
use Rattle.shim_gen.specs.shim_trees.Links.{held, tied_ports}
use Rattle.shim_gen.specs.shim_trees.RecordTop.{record_name, record_ports}
use Rattle.shim_gen.specs.shim_trees.Wrapped.{shims, ports_in, module_named, wrapped}
use Rattle.shim_step.specs.Wrapped.{IsWrapped}
use Rattle.shim_step.proofs.Files.{top_first}
use Rattle.shim_cosim.specs.Held.{held_inputs, AreHeldPins}
use Rattle.shim_cosim.specs.Recorded.{row_inputs, inputs_count, outputs_count, IsMadeRow}
use Rattle.shim_cosim.specs.Recording.{IsRecording, IsRecorded}
use Rattle.shim_cosim.specs.Top.{IsRound, IsTopDesign, IsWrapOf}
use Rattle.shim_cosim.proofs.HeldPorts.{tied_outputs}
use Rattle.shim_cosim.proofs.Ports.{side, side_append}
use Rattle.shim_cosim.proofs.Zips.{ways_of}
use Rattle.shim_cosim.proofs.RecordPorts.{channels_fit, all_long}
use Rattle.shim_cosim.proofs.RecordTops as tops
use Rattle.shim_cosim.proofs.RecordCycle as cycle
use Rattle.shim_cosim.proofs.RecordCycle.{IsRunningIn}

-- ---- how many ports there are
count-one : (b : Bool) (p : Port) (ps : List Port) → length (if b then p ∷ ps else ps) ≡ cond b 1 0 + length ps
count-one true p ps = omega arith
count-one false p ps = omega arith

ways_count : (way : Direction) (ports : List Port) → length (ways_of way ports) ≡ count_by (λ (p : Port). same_direction way p.direction) ports
ways_count way [] = refl
ways_count way (p ∷ ps) =
    count-one (same_direction way p.direction) p (ways_of way ps)
    ∙ ap (λ n. cond (same_direction way p.direction) 1 0 + n) (ways_count way ps)
    ∙ sym (count-cons (λ (q : Port). same_direction way q.direction) p ps)

ways_few : (way : Direction) (ports : List Port) → length (ways_of way ports) ≤ length ports
ways_few way [] = omega arith
ways_few way (p ∷ ps) = one (same_direction way p.direction) (ways_few way ps) where
  one : (b : Bool) → length (ways_of way ps) ≤ length ps → length (if b then p ∷ ways_of way ps else ways_of way ps) ≤ suc (length ps)
  one true l = omega (arith, l)
  one false l = omega (arith, l)

-- ---- what is known of the design
module _ {whole : Design} {f : FileOf ℕ} {a : Map} {m : ModuleOf ℕ} {d : Design} (r : IsRound record_name whole f a m d) where
  outputs_long : length (ways_of Output whole.ports) ≡ outputs_count a.channels
  outputs_long =
      let ties = tied_ports a m.ports in
      let chans = each_some record_ports 0 a.channels in
      ap (λ ps. length (ways_of Output ps)) (tops.ports_are r)
      ∙ ap length (side_append Output ties chans)
      ∙ ap (λ ps. length (ps ++ side Output chans)) (tied_outputs (held a) m.ports)
      ∙ sym (length-map (side Output chans) (λ (p : Port). 0)) ∙ all_long (λ name. 0) 0 a.channels

  pub places : outputs_count a.channels ≤ design_count whole
  places = (let e = outputs_long in let c = ways_count Output whole.ports in omega (arith, e, c))

  pub small : outputs_count a.channels < 2 ^ 32
  small =
      let e = outputs_long in
      let l = ways_few Output whole.ports in
      let few = r.top.design.lawful.ports in
      let most = r.top.design.lawful.small.nets in
      omega (arith, e, l, few, most)

  pub few : length a.channels ≤ 128
  few = (let l = r.mapped.mapped.table.few in omega (arith, l))

-- ---- a shell that runs
module _ {whole : Design} {state : Values} {a : Map} {first : ℕ} {pins resets : List ℕ} {d : Design} {s : Values} {before : Option Row}
    (on : IsRecording whole state a first pins resets d s before) where
  abbrev inside : IsRunningIn whole a d state s before
  inside = record { full = on.full; narrow = on.narrow; state_is = on.state_is; own = on.own; flight = on.flight }

  again : {next own : Values} {row : Option Row} (e : Design) (u : Values) (ps : List ℕ) → e ≡ whole → u ≡ next
      → AreHeldPins a on.tree.ports (inputs_count a.channels) first ps resets → IsRunningIn whole a d next own row
      → IsRecording e u a first ps resets d own row
  again {next} {own} {row} e u ps same now held h =
      subst (λ z. IsRecording z u a first ps resets d own row) (sym same)
      (subst (λ z. IsRecording whole z a first ps resets d own row) (sym now)
      (record {
        file = on.file;
        tree = on.tree;
        round = on.round;
        held = held;
        full = h.full;
        narrow = h.narrow;
        state_is = h.state_is;
        own = h.own;
        flight = h.flight;
      }))

  pub is_long : length pins ≡ first + inputs_count a.channels
  is_long = on.held.long

  front : (xs ps : List ℕ) → ps ≡ take first pins ++ xs → take first ps ≡ take first pins
  front xs ps e =
      let long = on.held.long in
      ap (take first) e ∙ take_at (take first pins) xs first (length-take-le first pins (omega (arith, long)))

  held_on : (xs ps : List ℕ) → ps ≡ take first pins ++ xs → length ps ≡ length pins
      → AreHeldPins a on.tree.ports (inputs_count a.channels) first ps resets
  held_on xs ps e long = record { held = front xs ps e ∙ on.held.held; long = long ∙ on.held.long; reset = on.held.reset }

  -- the inputs fit
  pub fit_drive : (offers : Offers) (gates : ℕ) → AreOffers a.channels offers → (ps : List ℕ)
      → ps ≡ take first pins ++ row_inputs a.channels (offered gates offers) → FitPins whole ps
  fit_drive offers gates are ps e =
      subst (FitPins whole) (sym (e ∙ ap (λ xs. xs ++ row_inputs a.channels (offered gates offers)) on.held.held))
      (tops.fit_inputs on.round false (row_inputs a.channels (offered gates offers))
      (channels_fit a.channels (offered gates offers) 0 a.channels (tops.are_fit on.round offers gates are)))

  pub fit_reset : FitPins whole resets
  fit_reset =
      subst (FitPins whole) (sym on.held.reset)
      (tops.fit_inputs on.round true (replicate (inputs_count a.channels) 0) (tops.zero_inputs on.round))

  -- the design is settled with these offers and gates
  module _ (is : IsState whole state) {inputs : List ℕ} {V : Values} (settled : design.IsSettled whole state inputs V) (offers : Offers) (gates : ℕ)
      (are : AreOffers a.channels offers) (zeros : AreZeroWhileDown a.channels offers) (below : gates < 2 ^ length a.channels)
      (entered : inputs ≡ take first pins ++ row_inputs a.channels (offered gates offers)) (row : Row)
      (made : IsMadeRow a.channels offers gates (outputs whole V) row) where
    pub cycled : cycle.Cycled on.round s before offers gates row (design.next whole V state)
    cycled =
        cycle.cycle_is on.round inside is settled offers gates are zeros below
        (entered ∙ ap (λ xs. xs ++ row_inputs a.channels (offered gates offers)) on.held.held) row made

  -- ---- the calls
  pub driven_on : (e : Design) (u : Values) (xs ps : List ℕ) → e ≡ whole → u ≡ state → ps ≡ take first pins ++ xs → length ps ≡ length pins
      → IsRecording e u a first ps resets d s before
  driven_on e u xs ps same now is long = again e u ps same now (held_on xs ps is long) inside

  pub clocked : (is : IsState whole state) (inputs : List ℕ) (V : Values) (row : Row) → IsRecorded whole state inputs V a first pins row
      → (e : Design) (u : Values) → e ≡ whole → u ≡ design.next whole V state
      → (after : Values) × IsStep d a s row after × IsRecording e u a first pins resets d after (Some row)
  clocked is inputs V row h e u same now =
      let c = cycled is h.settled h.offers h.gates h.are h.zeros h.below h.entered row h.made in
      (c.after, c.step, again e u pins same now on.held c.goes)

  pub restarted : (cycles : ℕ) → MatchOption a.reset (cycles ≡ 0) (λ (p : Reset). cycles ≡ p.cycles) → (e : Design) (u : Values) → e ≡ whole
      → IsAfter whole resets cycles (design.initial whole) u
      → (first_state : Values) × IsFirst d a first_state × IsRecording e u a first pins resets d first_state None
  restarted cycles is e u same h =
      let b = cycle.starts_anew on.round cycles is resets on.held.reset u h in
      (b.first, b.is_first, again e u pins same refl on.held b.on)

-- ---- a new one
find_if : {X : Type 0} (b : Bool) (z x : X) (o p : Option X) → (o ≡ Some x → p ≡ Some x) → (if b then Some z else o) ≡ Some x
    → (if b then Some z else p) ≡ Some x
find_if true z x o p more h = h
find_if false z x o p more h = more h

find_left : {X : Type 0} (test : X → Bool) (xs ys : List X) (x : X) → find test xs ≡ Some x → find test (xs ++ ys) ≡ Some x
find_left test [] ys x e = absurd (cc)
find_left test (z ∷ xs) ys x e = find_if (test z) z x (find test xs) (find test (xs ++ ys)) (find_left test xs ys x) e

module _ {w f : FileOf ℕ} {a : Map} {d : Design} (h : IsWrapOf w f a d) {whole : Design} (top : IsTopDesign w record_name whole) where
  abbrev m : ModuleOf ℕ
  m = h.design.top

  there : IsTopDesign (wrapped f a) record_name whole
  there = subst (λ z. IsTopDesign z record_name whole) h.tree top

  wrap : IsWrapped f a h.design.top d
  wrap = record {
    top = h.design.named;
    built = h.design.built;
    means = h.design.means;
    lawful = h.design.lawful;
    mapped = h.mapped;
    once = no_twice (wrapped f a) record_name there.clear.0;
  }

  round : IsRound record_name whole f a h.design.top d
  round = record {
    wrap = wrap;
    mapped = record {
      one_map = has_one_map d h.design.lawful h.order.0 h.order.1;
      nets = ports-are_nets d h.design.lawful;
      mapped = h.mapped;
    };
    top = there;
  }

  pub ports_same : ports_in (module_named w.modules a.top) ≡ h.design.top.ports
  ports_same =
      let first = top_first f a.top h.design.top h.design.named in
      ap (λ (z : FileOf ℕ). ports_in (module_named z.modules a.top)) h.tree
      ∙ ap ports_in (find_left (λ (x : ModuleOf ℕ). bytes_eq a.top x.name) f.modules (shims a (ports_in (module_named f.modules a.top))) m first.found)

  pub begun : (state : Values) (first : ℕ) (pins resets fixed : List ℕ) → state ≡ design.initial whole → first ≡ length fixed
      → fixed ≡ held_inputs a false (ports_in (module_named w.modules a.top)) → pins ≡ fixed ++ replicate (inputs_count a.channels) 0
      → resets ≡ held_inputs a true (ports_in (module_named w.modules a.top)) ++ replicate (inputs_count a.channels) 0
      → IsRecording whole state a first pins resets d (design.initial d) None
  begun state first pins resets fixed e count are all others =
      let b = cycle.begins round in
      subst (λ u. IsRecording whole u a first pins resets d (design.initial d) None) (sym e)
      (record {
        file = f;
        tree = h.design.top;
        round = round;
        held = record {
          held = ap (take first) all ∙ take_at fixed (replicate (inputs_count a.channels) 0) first (sym count) ∙ are
              ∙ ap (held_inputs a false) ports_same;
          long = ap length all ∙ length-append fixed (replicate (inputs_count a.channels) 0)
              ∙ (let z = length-replicate {A = ℕ} (inputs_count a.channels) 0 in let k : length fixed + length (replicate (inputs_count a.channels) 0) ≡ first + inputs_count a.channels = omega (arith, z, count) in k);
          reset = others ∙ ap (λ ps. held_inputs a true ps ++ replicate (inputs_count a.channels) 0) ports_same;
        };
        full = b.full;
        narrow = b.narrow;
        state_is = b.state_is;
        own = b.own;
        flight = b.flight;
      })

-- ---- where it is merely known that a shell runs
module _ {whole : Design} {state : Values} {a : Map} {first : ℕ} {pins resets : List ℕ}
    (known : ∥ IsRunning (IsRecording whole state a first pins resets) ∥₁) where
  pub known_long : length pins ≡ first + inputs_count a.channels
  known_long = ∥∥₁_elim known (hlevel props) (λ (r : IsRunning (IsRecording whole state a first pins resets)). is_long r.3)

  pub known_places : outputs_count a.channels ≤ design_count whole
  known_places = ∥∥₁_elim known (hlevel props) (λ (r : IsRunning (IsRecording whole state a first pins resets)). places r.3.round)

  pub known_small : outputs_count a.channels < 2 ^ 32
  known_small = ∥∥₁_elim known (hlevel props) (λ (r : IsRunning (IsRecording whole state a first pins resets)). small r.3.round)

  pub known_few : length a.channels ≤ 128
  known_few = ∥∥₁_elim known (hlevel props) (λ (r : IsRunning (IsRecording whole state a first pins resets)). few r.3.round)

  pub known_fit : (offers : Offers) (gates : ℕ) → AreOffers a.channels offers → (ps : List ℕ)
      → ps ≡ take first pins ++ row_inputs a.channels (offered gates offers) → FitPins whole ps
  known_fit offers gates are ps e = record {
    long = ∥∥₁_elim known (hlevel props) (λ (r : IsRunning (IsRecording whole state a first pins resets)). (fit_drive r.3 offers gates are ps e).long);
    each = λ j l. ∥∥₁_elim known (hlevel props) (λ (r : IsRunning (IsRecording whole state a first pins resets)). (fit_drive r.3 offers gates are ps e).each j l);
  }

  pub known_reset : FitPins whole resets
  known_reset = record {
    long = ∥∥₁_elim known (hlevel props) (λ (r : IsRunning (IsRecording whole state a first pins resets)). (fit_reset r.3).long);
    each = λ j l. ∥∥₁_elim known (hlevel props) (λ (r : IsRunning (IsRecording whole state a first pins resets)). (fit_reset r.3).each j l);
  }

-- what every running one becomes, some running one becomes
pub runs_on : (A B : Design → Values → Option Row → Type 0)
    → ((d : Design) (s : Values) (before : Option Row) → A d s before → IsRunning B) → ∥ IsRunning A ∥₁ → ∥ IsRunning B ∥₁
runs_on A B to known = ∥∥₁_map known (λ (on : IsRunning A). to on.0 on.1 on.2 on.3)
