-- A cycle of a wrapped file's flat design with the top that records: its row is the one that monitors round the design fill.
use Rattle.std.proofs.Common.{◌≡◌, ℕ, zero, suc, ◌+◌, ◌<◌, ◌^◌, ◌==◌, Bool, true, false, List, [], ◌∷◌, ◌++◌, length, take, map, replicate}
use Rattle.std.proofs.Common.{Option, Some, None, refl, sym, ap, ◌∙◌, subst, arith, slice_get, get_or}
use Rattle.std.specs.Prelude.{codes, MatchOption}
use Rattle.std.specs.List.{range_with_len}
use Rattle.std.proofs.lemmas.List.{ext_get_or}
use Rattle.net_sim.specs.vidi_bits.Number.{truth, has}
use Rattle.vlog_tree.specs.Tree.{ModuleOf, FileOf}
use Rattle.shim_step.specs.vlog_driver.Names.{Full, State}
use Rattle.shim_step.specs.vlog_driver.Next.{IsNext, IsInitial}
use Rattle.net_design.specs.declared.design.Design.{Design}
use Rattle.net_design.specs.declared.values.Values.{Values}
use Rattle.net_design.specs.Lawful.{IsLawful, IsState}
use Rattle.net_design.specs.Pins.{input_limits, outputs}
use Rattle.net_design.specs.Settled as design
use Rattle.net_design.proofs.StateLaws.{initial_state, next_state}
use Rattle.vlog_design.specs.flat_parts.Meaning.{state_of}
use Rattle.replay_run.specs.trace_model.declared.channel.Channel.{Channel}
use Rattle.replay_run.specs.trace_model.declared.channel.Dir.{Dir}
use Rattle.replay_run.specs.trace_model.declared.channel.Dir.TheVariants.{Inward, Outward}
use Rattle.replay_run.specs.trace_model.declared.row.Offers.{Offers}
use Rattle.replay_run.specs.trace_model.declared.row.Row.{Row}
use Rattle.replay_run.specs.trace_model.Packet.{Fit}
use Rattle.replay_run.specs.trace_model.Row.{content_at, AreOffers, IsOver}
use Rattle.replay_run.proofs.trace_model_lemmas.ContentsLemmas.{fit-length}
use Rattle.replay_run.specs.chan_map.declared.pins.Map.{Map}
use Rattle.replay_run.specs.chan_map.declared.pins.Reset.{Reset}
use Rattle.replay_run.specs.run_model.Building.{mask_of, joined, number_for}
use Rattle.replay_run.specs.run_model.Offers.{AreZeroWhileDown, CarriesOn}
use Rattle.replay_run.specs.run_model.Pins.{silent, entered, ArePins}
use Rattle.replay_run.specs.run_model.Step as run
use Rattle.replay_run.specs.run_model.Step.{IsAfter, IsFirst, IsStep}
use Rattle.replay_run.proofs.run_model_lemmas.Contents.{mask-below, has-mask, same-masks_below, fit-joined, content-joined, content-fits, same-contents}
use Rattle.replay_run.proofs.run_model_lemmas.PinLemmas.{are-pins, one-list}
use Rattle.replay_run.proofs.run_model_lemmas.PlayedLaws.{silent-small}
use Rattle.replay_run.proofs.run_model_lemmas.RowParts.{channel-at}
use Rattle.replay_run.specs.chan_monitor.Entering.{offered}
use Rattle.replay_run.specs.chan_monitor.Shell.{IsShown}
use Rattle.replay_run.proofs.chan_monitor_lemmas.Filling.{offered-is}
use Rattle.replay_run.proofs.chan_monitor_lemmas.RowOfCycle.{first-none, first-some}
use Rattle.shim_gen.specs.shim_trees.Pieces.{numbered, each_some, upto}
use Rattle.shim_gen.specs.shim_trees.RecordTop.{record_ports, record_name, record_top}
use Rattle.shim_gen.specs.shim_trees.Wrapped.{wrapped}
use Rattle.shim_step.specs.Part.{pins_below}
use Rattle.shim_step.specs.Wrapped.{DUT, Flies}
use Rattle.shim_step.specs.Ports.{HasContent, ShowsContent}
use Rattle.shim_step.specs.Recording.{own_state, Records}
use Rattle.shim_step.proofs.Recording.{records_rows}
use Rattle.shim_step.proofs.RecordResets.{records_resets, records_begin}
use Rattle.shim_step.proofs.Files as files
use Rattle.shim_cosim.specs.declared.recorded.Spot.TheVariants.{Side, Start, Stop}
use Rattle.shim_cosim.specs.declared.recorded.Spot.{Spot}
use Rattle.shim_cosim.specs.Held.{held_inputs}
use Rattle.shim_cosim.specs.Recorded.{row_inputs, inputs_count, outputs_count, output_count, content_count, spot_place, spot_in, is_raised, side_mask}
use Rattle.shim_cosim.specs.Recorded.{is_chosen, chosen_on, chosen_in, made_on, made_in, made_content, shown_content, IsMadeRow}
use Rattle.shim_cosim.specs.Top.{IsRound}
use Rattle.shim_cosim.proofs.Entering.{upto-at, length-upto}
use Rattle.shim_cosim.proofs.RecordPorts as parts
use Rattle.shim_cosim.proofs.RecordPorts.{shown, seat_shows, ready_shown, valid_shown, content_shown, events_shown}
use Rattle.shim_cosim.proofs.RecordTops as tops
use Rattle.shim_cosim.proofs.States.{full_of, IsFull}

-- ---- bits
truth_is : (b : Bool) → (truth b == 1) ≡ b
truth_is true = refl
truth_is false = refl

shown_bit : (n : ℕ) (b : Bool) → n ≡ truth b → (n == 1) ≡ b
shown_bit n b e = ap (λ k. k == 1) e ∙ truth_is b

-- ---- what the outputs of a channel show
module _ (v : Full → ℕ) (channels : List Channel) (out : List ℕ) (are : out ≡ shown v (each_some record_ports 0 channels))
    (c : ℕ) (x : Channel) (at : slice_get channels c ≡ Some x) where
  at_seat : (j : ℕ) → j < output_count x → get_or out (outputs_count (take c channels) + j) 0 ≡ get_or (shown v (record_ports c x)) j 0
  at_seat j l =
      ap (λ xs. get_or xs (outputs_count (take c channels) + j) 0) are ∙ seat_shows v 0 channels c c x at (omega arith) j l

  spot_is : (spot : Spot) → spot_place spot x < output_count x → (n : ℕ) → get_or (shown v (record_ports c x)) (spot_place spot x) 0 ≡ n
      → is_raised channels out spot c ≡ (n == 1)
  spot_is spot l n e =
      ap (λ k. k == 1)
      (ap (λ o. get_or out (outputs_count (take c channels) + spot_in spot o) 0) at ∙ at_seat (spot_place spot x) l ∙ e)

  start_is : is_raised channels out Start c ≡ (v (numbered (codes "start_") c ∷ []) == 1)
  start_is = spot_is Start (omega arith) _ (events_shown v c x x.dir x.widths refl).start

  stop_is : is_raised channels out Stop c ≡ (v (numbered (codes "stop_") c ∷ []) == 1)
  stop_is = spot_is Stop (omega arith) _ (events_shown v c x x.dir x.widths refl).stop

  ready_is : x.dir ≡ Inward → is_raised channels out Side c ≡ (v (numbered (codes "r_") c ∷ []) == 1)
  ready_is way =
      spot_is Side (omega arith) _
      (ap (λ dir. get_or (shown v (parts.ports c dir x.widths)) 0 0) way ∙ ready_shown v c x.widths)

  valid_is : x.dir ≡ Outward → is_raised channels out Side c ≡ (v (numbered (codes "v_") c ∷ []) == 1)
  valid_is way =
      spot_is Side (omega arith) _
      (ap (λ dir. get_or (shown v (parts.ports c dir x.widths)) 0 0) way ∙ valid_shown v c x.widths)

  content_is : x.dir ≡ Outward → (content : List ℕ) → length content ≡ length x.widths → HasContent v (codes "d_") c x.widths content
      → shown_content channels out c x ≡ content
  content_is way content long has_content =
      let f : ℕ → ℕ = λ k. get_or out k 0 in
      let k = outputs_count (take c channels) + 1 in
      let n = length x.widths in
      ext_get_or 0 (upto f k n) content (length-upto f k n ∙ sym long)
      (λ i l.
      (let less : i < length x.widths = (let a = length-upto f k n in omega (arith, l, a)) in
      let width = channel-at x.widths i less in
      let count : content_count x x.dir ≡ length x.widths = ap (content_count x) way in
      let place : k + i ≡ outputs_count (take c channels) + (1 + i) = omega arith in
      upto-at f k n i less ∙ ap f place ∙ at_seat (1 + i) (omega (arith, less, count))
      ∙ ap (λ dir. get_or (shown v (parts.ports c dir x.widths)) (1 + i) 0) way
      ∙ content_shown v c x.widths i width.0 width.1 ∙ has_content i width.0 width.1))

-- ---- a row that is made of the outputs is the one that the monitors fill
module _ {f : FileOf ℕ} {a : Map} {d : Design} {top : ModuleOf ℕ} {s : State} {v : Full → ℕ} {before : Option Row} {offers : Offers} {gates : ℕ}
    {filled : Row} (records : Records f a d top s v before offers gates filled) (out : List ℕ)
    (outs : out ≡ shown v (each_some record_ports 0 a.channels)) (are : AreOffers a.channels offers) (zeros : AreZeroWhileDown a.channels offers)
    {row : Row} (made : IsMadeRow a.channels offers gates out row) where
  abbrev n : ℕ
  n = length a.channels

  over : IsOver a.channels filled
  over = records.shown.over

  carried : (c : ℕ) (x : Channel) → slice_get a.channels c ≡ Some x → CarriesOn a.channels offers filled c x.dir
  carried = records.shown.carries

  chosen_is : (inward outward c : ℕ) (x : Channel) → slice_get a.channels c ≡ Some x → c < n
      → has (mask_of (is_chosen a.channels inward outward) (length a.channels)) c ≡ chosen_on inward outward c x.dir
  chosen_is inward outward c x at l =
      has-mask (is_chosen a.channels inward outward) (length a.channels) c l ∙ ap (chosen_in inward outward c) at

  side_is : (c : ℕ) → c < n → has (side_mask a.channels out) c ≡ is_raised a.channels out Side c
  side_is c l = has-mask (is_raised a.channels out Side) (length a.channels) c l

  valid_on : (c : ℕ) (x : Channel) → slice_get a.channels c ≡ Some x → c < n → (dir : Dir) → x.dir ≡ dir → CarriesOn a.channels offers filled c dir
      → chosen_on offers.valids (side_mask a.channels out) c dir ≡ has filled.valids c
  valid_on c x at l Inward way carry = sym carry.0
  valid_on c x at l Outward way carry =
      side_is c l ∙ valid_is v a.channels out outs c x at way ∙ shown_bit _ (has filled.valids c) (records.ports.valid c x at)

  ready_on : (c : ℕ) (x : Channel) → slice_get a.channels c ≡ Some x → c < n → (dir : Dir) → x.dir ≡ dir → CarriesOn a.channels offers filled c dir
      → chosen_on (side_mask a.channels out) offers.readies c dir ≡ has filled.readies c
  ready_on c x at l Inward way carry =
      side_is c l ∙ ready_is v a.channels out outs c x at way ∙ shown_bit _ (has filled.readies c) (records.ports.ready c x at)
  ready_on c x at l Outward way carry = sym carry

  within : (c : ℕ) → c < n → (x : Channel) × (slice_get a.channels c ≡ Some x)
  within c l = channel-at a.channels c l

  same_valids : row.valids ≡ filled.valids
  same_valids =
      made.valids
      ∙ same-masks_below n (mask_of (is_chosen a.channels offers.valids (side_mask a.channels out)) n) filled.valids
      (mask-below (is_chosen a.channels offers.valids (side_mask a.channels out)) n) over.valids
      (λ c l.
      (let x = within c l in
      chosen_is offers.valids (side_mask a.channels out) c x.0 x.1 l ∙ valid_on c x.0 x.1 l x.0.dir refl (carried c x.0 x.1)))

  same_readies : row.readies ≡ filled.readies
  same_readies =
      made.readies
      ∙ same-masks_below n (mask_of (is_chosen a.channels (side_mask a.channels out) offers.readies) n) filled.readies
      (mask-below (is_chosen a.channels (side_mask a.channels out) offers.readies) n) over.readies
      (λ c l.
      (let x = within c l in
      chosen_is (side_mask a.channels out) offers.readies c x.0 x.1 l ∙ ready_on c x.0 x.1 l x.0.dir refl (carried c x.0 x.1)))

  same_starts : row.starts ≡ filled.starts
  same_starts =
      made.starts
      ∙ same-masks_below n (mask_of (is_raised a.channels out Start) n) filled.starts (mask-below (is_raised a.channels out Start) n) over.starts
      (λ c l.
      (let x = within c l in
      has-mask (is_raised a.channels out Start) n c l ∙ start_is v a.channels out outs c x.0 x.1
      ∙ shown_bit _ (has filled.starts c) (records.ports.start c x.0 x.1)))

  same_ends : row.ends ≡ filled.ends
  same_ends =
      made.ends
      ∙ same-masks_below n (mask_of (is_raised a.channels out Stop) n) filled.ends (mask-below (is_raised a.channels out Stop) n) over.ends
      (λ c l.
      (let x = within c l in
      has-mask (is_raised a.channels out Stop) n c l ∙ stop_is v a.channels out outs c x.0 x.1
      ∙ shown_bit _ (has filled.ends c) (records.ports.stop c x.0 x.1)))

  content_on : (c : ℕ) (x : Channel) → slice_get a.channels c ≡ Some x → (dir : Dir) → x.dir ≡ dir → CarriesOn a.channels offers filled c dir
      → ShowsContent v a.channels filled c dir x.widths → made_on a.channels offers out c x dir ≡ content_at a.channels filled.contents c
  content_on c x at Inward way carry shows =
      sym (carry.1 ∙ offered-is a.channels offers c (has offers.valids c) refl (zeros c x at way))
  content_on c x at Outward way carry shows =
      let fit = content-fits a.channels filled.contents over.contents c x at in
      content_is v a.channels out outs c x at way (content_at a.channels filled.contents c)
      (sym (fit-length x.widths (content_at a.channels filled.contents c) fit)) shows

  piece : (c : ℕ) (x : Channel) → slice_get a.channels c ≡ Some x
      → made_content a.channels offers out c ≡ content_at a.channels filled.contents c
  piece c x at =
      ap (made_in a.channels offers out c) at ∙ content_on c x at x.dir refl (carried c x at) (records.ports.content c x at)

  fits : (c : ℕ) (x : Channel) → slice_get a.channels c ≡ Some x → Fit x.widths (made_content a.channels offers out c)
  fits c x at = subst (Fit x.widths) (sym (piece c x at)) (content-fits a.channels filled.contents over.contents c x at)

  same_contents : row.contents ≡ filled.contents
  same_contents =
      made.contents
      ∙ same-contents a.channels (joined (made_content a.channels offers out) 0 a.channels) filled.contents
      (fit-joined (made_content a.channels offers out) a.channels fits) over.contents
      (λ c x at. content-joined (made_content a.channels offers out) a.channels fits c x at ∙ piece c x at)

  pub is_filled : row.fresh ≡ filled.fresh → row ≡ filled
  is_filled same_fresh =
      let same_gates : row.gates ≡ filled.gates = made.gates_are ∙ sym records.shown.gates_are in
      λ i. record {
        fresh = same_fresh i;
        gates = same_gates i;
        valids = same_valids i;
        readies = same_readies i;
        contents = same_contents i;
        starts = same_starts i;
        ends = same_ends i;
      }

-- ---- a state of the flat design
pub record IsRunningIn (whole : Design) (a : Map) (d : Design) (state s : Values) (before : Option Row) : Type 0 where
  pub full : State
  pub narrow : (name : Full) (k : ℕ) → full.words name k < 2 ^ 128
  pub state_is : state_of whole full ≡ state
  pub own : own_state d full ≡ s
  pub flight : Flies a before full

module _ {whole : Design} {f : FileOf ℕ} {a : Map} {m : ModuleOf ℕ} {d : Design} (r : IsRound record_name whole f a m d) where
  abbrev T : ModuleOf ℕ
  T = record_top a m.ports

  abbrev law : IsLawful whole
  law = r.top.design.lawful

  full : (s : Values) → IsState whole s → IsFull whole s
  full s is = full_of (wrapped f a) record_name T whole r.top.clear.0 (tops.named r) (tops.built r) law s is

  -- ---- a cycle
  pub record Cycled (s : Values) (before : Option Row) (offers : Offers) (gates : ℕ) (row : Row) (next : Values) : Type 0 where
    pub shown : IsShown d a s before offers gates row
    pub after : Values
    pub step : IsStep d a s row after
    pub goes : IsRunningIn whole a d next after (Some row)

  module _ {state s : Values} {before : Option Row} (on : IsRunningIn whole a d state s before) (is : IsState whole state)
      {inputs : List ℕ} {V : Values} (settled : design.IsSettled whole state inputs V) where
    abbrev v : Full → ℕ
    v = tops.v r on.full on.state_is is on.narrow settled

    -- the next state of the flat design is the list of a next state of the file
    goes_on : (after : State) → state_of whole after ≡ design.next whole V state → IsNext (files.more_of f a) T on.full v after
    goes_on after e =
        ((tops.means r).next on.full after v).0
        (ap (λ u. design.next whole u (state_of whole on.full)) (tops.beside r on.full on.state_is is on.narrow settled).is
        ∙ ap (design.next whole V) on.state_is ∙ sym e)

    pub cycle_is : (offers : Offers) (gates : ℕ) → AreOffers a.channels offers → AreZeroWhileDown a.channels offers
        → gates < 2 ^ length a.channels → inputs ≡ held_inputs a false m.ports ++ row_inputs a.channels (offered gates offers)
        → (row : Row) → IsMadeRow a.channels offers gates (outputs whole V) row → Cycled s before offers gates row (design.next whole V state)
    cycle_is offers gates are zeros below entered row made =
        let found = records_rows f a m d r.wrap T on.full inputs v (tops.cycle r on.full on.state_is is on.narrow settled) before on.flight offers are
        gates below (tops.has_offers r on.full on.state_is is on.narrow settled offers gates are entered) row.fresh in
        let records : Records f a d T on.full v before offers gates found.0 = found.2 in
        let same : row ≡ found.0 =
        is_filled records (outputs whole V) (tops.outputs_are r on.full on.state_is is on.narrow settled) are zeros made (sym found.1) in
        let later = full (design.next whole V state) (next_state whole law V state is) in
        let steps = records.next later.full (goes_on later.full later.is) in
        record {
          shown =
              subst (λ u. IsShown d a u before offers gates row) on.own
              (subst (IsShown d a (own_state d on.full) before offers gates) (sym same) records.shown);
          after = own_state d later.full;
          step =
              subst (λ u. IsStep d a u row (own_state d later.full)) on.own
              (subst (λ z. IsStep d a (own_state d on.full) z (own_state d later.full)) (sym same) steps.0);
          goes = record {
            full = later.full;
            narrow = later.narrow;
            state_is = later.is;
            own = refl;
            flight = subst (λ z. Flies a (Some z) later.full) (sym same) steps.1;
          };
        }

  -- ---- the initial state, and reset cycles
  pub begins : IsRunningIn whole a d (design.initial whole) (design.initial d) None
  begins =
      let first = full (design.initial whole) (initial_state whole law) in
      let initial : IsInitial (files.more_of f a) T first.full = ((tops.means r).initial first.full).0 (sym first.is) in
      let own = records_begin f a m d r.wrap T (tops.named r) first.full initial in
      record { full = first.full; narrow = first.narrow; state_is = first.is; own = sym own.0; flight = own.1 }

  abbrev quiet : List ℕ
  quiet = held_inputs a true m.ports ++ replicate (inputs_count a.channels) 0

  -- after n reset cycles
  pub record IsReset (pins : List ℕ) (n : ℕ) (state : Values) : Type 0 where
    pub own : Values
    pub after : IsAfter d pins n (design.initial d) own
    pub on : IsRunningIn whole a d state own None
    pub is : IsState whole state

  resets : (pins : List ℕ) → ArePins d a true silent pins → (inputs : List ℕ)
      → inputs ≡ held_inputs a true m.ports ++ replicate (inputs_count a.channels) 0 → (n : ℕ) (state : Values)
      → IsAfter whole inputs n (design.initial whole) state → IsReset pins n state
  resets pins are inputs entered zero state h = record {
    own = design.initial d;
    after = refl;
    on = subst (λ u. IsRunningIn whole a d u (design.initial d) None) (sym h) begins;
    is = subst (IsState whole) (sym h) (initial_state whole law);
  }
  resets pins are inputs entered (suc n) state h =
      let between = h.0 in
      let step = h.2 in
      let b = resets pins are inputs entered n between h.1 in
      let on = b.on in
      let V = step.v in
      let cycle = tops.cycle r on.full on.state_is b.is on.narrow step.settled in
      let quiets = tops.has_reset r on.full on.state_is b.is on.narrow step.settled entered in
      let found = records_resets f a m d r.wrap T on.full inputs (tops.v r on.full on.state_is b.is on.narrow step.settled) cycle None on.flight quiets in
      let next_is : IsState whole (design.next whole V between) = next_state whole law V between b.is in
      let later = full (design.next whole V between) next_is in
      let goes = found.1 later.full (goes_on on b.is step.settled later.full later.is) in
      let same : pins_below m DUT (tops.v r on.full on.state_is b.is on.narrow step.settled) ≡ pins =
      one-list d a r.mapped.mapped true silent silent refl _ pins found.0 are in
      subst (IsReset pins (suc n)) (sym step.next)
      (record {
        own = own_state d later.full;
        after = (
          b.own,
          b.after,
          subst (λ u. run.IsNext d pins u (own_state d later.full)) on.own
              (subst (λ ps. run.IsNext d ps (own_state d on.full) (own_state d later.full)) same goes.0),
        );
        on = record { full = later.full; narrow = later.narrow; state_is = later.is; own = refl; flight = goes.1 };
        is = next_is;
      })

  abbrev still : List ℕ
  still = map (number_for (entered a true silent)) (range_with_len 0 (length (input_limits d)))

  -- the state after the map's reset cycles
  pub record IsFirstOf (state : Values) : Type 0 where
    pub first : Values
    pub is_first : IsFirst d a first
    pub on : IsRunningIn whole a d state first None

  first_of : (o : Option Reset) → a.reset ≡ o → (cycles : ℕ) → MatchOption o (cycles ≡ 0) (λ (p : Reset). cycles ≡ p.cycles)
      → (inputs : List ℕ) → inputs ≡ held_inputs a true m.ports ++ replicate (inputs_count a.channels) 0 → (state : Values)
      → IsAfter whole inputs cycles (design.initial whole) state → IsFirstOf state
  first_of None e cycles is inputs entered state h =
      let none : state ≡ design.initial whole = subst (λ k. IsAfter whole inputs k (design.initial whole) state) is h in
      record {
        first = design.initial d;
        is_first = first-none d a (design.initial d) e refl;
        on = subst (λ u. IsRunningIn whole a d u (design.initial d) None) (sym none) begins;
      }
  first_of (Some p) e cycles is inputs entered state h =
      let are = are-pins d a r.mapped.mapped true silent (silent-small a.channels) in
      let b = resets still are inputs entered cycles state h in
      record {
        first = b.own;
        is_first = first-some d a p still (design.initial d) b.own e are refl (subst (λ k. IsAfter d still k (design.initial d) b.own) is b.after);
        on = b.on;
      }

  pub starts_anew : (cycles : ℕ) → MatchOption a.reset (cycles ≡ 0) (λ (p : Reset). cycles ≡ p.cycles) → (inputs : List ℕ)
      → inputs ≡ held_inputs a true m.ports ++ replicate (inputs_count a.channels) 0 → (state : Values)
      → IsAfter whole inputs cycles (design.initial whole) state → IsFirstOf state
  starts_anew cycles is inputs entered state h = first_of a.reset refl cycles is inputs entered state h
