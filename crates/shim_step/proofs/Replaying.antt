-- Lock step of the top that replays.
use Rattle.std.proofs.Common.{◌≡◌, ℕ, zero, suc, ◌+◌, ◌<◌, ◌≤◌, ◌^◌, ◌==◌, ◌&&◌, ◌↔◌, Bool, true, false, if◌then◌else◌, List, [], ◌∷◌}
use Rattle.std.proofs.Common.{length, replicate, Option, Some, refl, sym, ap, ◌∙◌, subst, arith, slice_get, get_or, inl, inr}
use Rattle.std.specs.Prelude.{codes, slice_index}
use Rattle.std.proofs.lemmas.List.Sums.{count_by-le-length}
use Rattle.std.proofs.lemmas.Nat.{pow_pos}
use Rattle.std.proofs.lemmas.Option.{slice_get_within}
use Rattle.net_order.specs.vidi_bits.Number.{truth, has}
use Rattle.vlog_tree.specs.Tree.{ModuleOf, FileOf}
use Rattle.net_design.specs.declared.design.Design.{Design}
use Rattle.net_design.specs.declared.design.Direction.TheVariants.{Output}
use Rattle.net_design.specs.Pins.{outputs}
use Rattle.flat_parts.specs.vlog_driver.Names.{Name, Full, State}
use Rattle.flat_parts.specs.vlog_driver.Settled.{IsSettled}
use Rattle.flat_parts.specs.Meaning.{AreNarrow}
use Rattle.chan_replayer.specs.trace_model.declared.channel.Channel.{Channel}
use Rattle.chan_replayer.specs.trace_model.declared.channel.Dir.{Dir}
use Rattle.chan_replayer.specs.trace_model.declared.channel.Dir.TheVariants.{Inward, Outward}
use Rattle.chan_replayer.specs.trace_model.declared.event.Kind.TheVariants.{End}
use Rattle.chan_replayer.specs.trace_model.declared.packet.TheConstants.{MOST_CYCLES}
use Rattle.chan_replayer.specs.trace_model.declared.row.Offers.{Offers}
use Rattle.chan_replayer.specs.trace_model.declared.row.Row.{Row}
use Rattle.chan_replayer.specs.trace_model.Recording.{row_does}
use Rattle.chan_replayer.specs.trace_model.Row.{content_at, completes, row_before, AreOffers}
use Rattle.chan_replayer.proofs.trace_model_lemmas.CountingLemmas.{count-push}
use Rattle.chan_replayer.specs.chan_map.declared.pins.Map.{Map}
use Rattle.chan_replayer.specs.chan_map.declared.pins.Pin.{Pin}
use Rattle.chan_replayer.specs.chan_map.declared.pins.Plug.{Plug}
use Rattle.chan_replayer.specs.chan_map.Bound.{IsPin, IsPlug}
use Rattle.chan_replayer.specs.run_model.Building.{row_of, mask_of}
use Rattle.chan_replayer.specs.run_model.Offers.{CarriesOn, no_content}
use Rattle.chan_replayer.specs.run_model.Pins.{shown_number}
use Rattle.chan_replayer.specs.run_model.Played.{all_up}
use Rattle.chan_replayer.specs.run_model.Replay.{done}
use Rattle.chan_replayer.specs.run_model.Step.{ShowsPlug}
use Rattle.chan_replayer.proofs.run_model_lemmas.Contents.{has-all, has-mask, mask-below}
use Rattle.chan_replayer.proofs.run_model_lemmas.RowParts.{row-carries, channel-at}
use Rattle.chan_replayer.specs.declared.feed.Feed.{Feed}
use Rattle.chan_replayer.specs.Feed.{need_of, IsFeedOver, IsFedOn, IsUp}
use Rattle.shim_trees.specs.Pieces.{numbered, numbered_twice}
use Rattle.shim_trees.specs.Links.{link, replay_links}
use Rattle.shim_trees.specs.ReplayTop.{replay_name, replay_top}
use Rattle.shim_trees.specs.Wrapped.{wrapped}
use Rattle.shim_step.proofs.Elements.{Has}
use Rattle.shim_step.specs.Wrapped.{IsWrapped, Counts, counter_name}
use Rattle.shim_step.specs.Ports.{HasContent, HasFedContent, HasFeed, content_base}
use Rattle.shim_step.specs.Replaying.{Replays, ReplaysRows}
use Rattle.shim_step.proofs.Lists.{has_each}
use Rattle.shim_step.proofs.Files as files
use Rattle.shim_step.proofs.Stand.{HasNet}
use Rattle.shim_step.proofs.Counting.{reached_is}
use Rattle.shim_step.proofs.Entered.{CarryPlug, CarryRow}
use Rattle.shim_step.proofs.Round.{IsRound, clock_carries, reset_carries, ties_carry}
use Rattle.shim_step.proofs.Replayed as top
use Rattle.shim_step.proofs.Cycle as cycle
use Rattle.shim_step.proofs.Cycle.{no_outputs, beside, bit_same}

-- ---- contents
-- what a gate carries, and what the row has, is the fed content while its valid is up, else 0
carried_case : (b : Bool) (d : ℕ) (mine shown none : List ℕ) (i : ℕ) → d ≡ slice_index mine i → shown ≡ (if b then mine else none)
    → (if b then d else 0) ≡ shown_number b shown i
carried_case true d mine shown none i h e = h ∙ ap (λ xs. slice_index xs i) (sym e)
carried_case false d mine shown none i h e = refl

shown_case : (b : Bool) (d : ℕ) (mine shown none : List ℕ) (i : ℕ) → d ≡ slice_index mine i → shown ≡ (if b then mine else none)
    → slice_index none i ≡ 0 → (if b then d else 0) ≡ slice_index shown i
shown_case true d mine shown none i h e zero_there = h ∙ ap (λ xs. slice_index xs i) (sym e)
shown_case false d mine shown none i h e zero_there = sym zero_there ∙ ap (λ xs. slice_index xs i) (sym e)

zero_at : (n i : ℕ) → get_or (replicate {A = ℕ} n 0) i 0 ≡ 0
zero_at zero i = refl
zero_at (suc n) zero = refl
zero_at (suc n) (suc i) = zero_at n i

-- ---- bits
and_up : (b g : Bool) → g ≡ true → (b && g) ≡ b
and_up true g e = e
and_up false g e = refl

bit_test : (b : Bool) → (truth b == 1) ≡ b
bit_test true = refl
bit_test false = refl

same_bit : (b c : Bool) (n : ℕ) → n ≡ truth b → n ≡ truth c → b ≡ c
same_bit b c n e g = sym (bit_test b) ∙ ap (λ z. z == 1) (sym e ∙ g) ∙ bit_test c

along : {P : Type 0} (b c : Bool) → b ≡ c → (c ≡ true) ↔ P → (b ≡ true) ↔ P
along b c e p = ((λ t. p.0 (sym e ∙ t)), (λ q. e ∙ p.1 q))

module _ {f : FileOf ℕ} {a : Map} {m : ModuleOf ℕ} {d : Design} (w : IsWrapped f a m d) {s : State} {pins : List ℕ} {v : Full → ℕ}
    (settled : IsSettled (files.more_of f a) (replay_top a m.ports) s pins v)
    (small : AreNarrow (files.more_of f a) (replay_top a m.ports) s.words) where
  abbrev T : ModuleOf ℕ
  T = replay_top a m.ports

  abbrev n : ℕ
  n = length a.channels

  round : IsRound f a m (codes "v_") (codes "r_") (replay_top a m.ports)
  round = top.round w

  abbrev valid_now : ℕ → Bool
  valid_now c = v (numbered (codes "v_") c ∷ []) == 1

  abbrev ready_now : ℕ → Bool
  ready_now c = v (numbered (codes "r_") c ∷ []) == 1

  room : n < 2 ^ 64
  room = (let few = w.mapped.table.few in omega (arith, few))

  module _ (fresh : Bool) (rows : List Row) (short : length rows ≤ MOST_CYCLES) (counts : Counts a rows s) (feed : Feed) (over : IsFeedOver a.channels feed)
      (on : HasFeed a feed v) where
    most : (j : ℕ) → done rows j + 1 < 2 ^ 32
    most j = (let le = count_by-le-length (row_does End j) rows in omega (arith, le, short))

    few : (j : ℕ) → done rows j < 2 ^ 32
    few j = (let l = most j in omega (arith, l))

    -- what the replayers offer
    abbrev offers : Offers
    offers = record { valids = mask_of valid_now n; readies = mask_of ready_now n; contents = feed.contents }

    are : AreOffers a.channels offers
    are = record { valids = mask-below valid_now n; readies = mask-below ready_now n; contents = over.contents }

    abbrev before : Option Row
    before = row_before rows (length rows)

    abbrev gates : ℕ
    gates = all_up a.channels

    below : gates < 2 ^ length a.channels
    below = (let some = pow_pos (length a.channels) in omega (arith, some))

    abbrev first : Row
    first = row_of a fresh before offers gates []

    first_carries : (c : ℕ) (x : Channel) → slice_get a.channels c ≡ Some x → CarriesOn a.channels offers first c x.dir
    first_carries c x at = row-carries d a w.mapped fresh before offers are gates [] (no_outputs d) c x at

    module _ (c : ℕ) (x : Channel) (at : slice_get a.channels c ≡ Some x) where
      within : c < n
      within = slice_get_within a.channels c x at

      gate_up : has gates c ≡ true
      gate_up = has-all n c within

      valid_offered : has offers.valids c ≡ valid_now c
      valid_offered = has-mask valid_now n c within

      ready_offered : has offers.readies c ≡ ready_now c
      ready_offered = has-mask ready_now n c within

      carry_plug : (plug : Plug) → slice_get a.plugs c ≡ Some plug → (dir : Dir) → x.dir ≡ dir
          → HasFedContent v a.channels feed c dir x.widths → CarriesOn a.channels offers first c dir
          → CarryPlug T (replay_links a) v a.channels first c dir x.widths plug
      carry_plug plug pat Inward way fed carries =
          let same : (has first.valids c && has gates c) ≡ valid_now c = and_up (has first.valids c) (has gates c) gate_up ∙ carries.0 ∙ valid_offered in (
            cycle.carried_by w round c x plug at pat Inward way plug.valid (numbered (codes "v_") c) 1 _ (inl refl) (top.top_v w c x at)
                (top.valid_bit w c x at settled ∙ ap truth (sym same)),
            (λ i k pin e pe.
                cycle.carried_by w round c x plug at pat Inward way pin (numbered_twice (codes "k_") c i) k _
                (inr (inr (has_each (λ i pin. link pin (numbered_twice (codes "k_") c i)) 0 plug.contents i pin i (omega arith) pe)))
                (top.top_k w c x at way i k e)
                (top.content_is w c x at settled way i k (valid_now c) e (top.valid_bit w c x at settled)
                ∙ carried_case (valid_now c) _ (content_at a.channels feed.contents c) (content_at a.channels first.contents c) (no_content a.channels c) i
                (fed i k e)
                (carries.1 ∙ ap (λ b. if b then content_at a.channels feed.contents c else no_content a.channels c) valid_offered)
                ∙ ap (λ b. shown_number b (content_at a.channels first.contents c) i) (sym same))),
          )
      carry_plug plug pat Outward way fed carries =
          let same : (has first.readies c && has gates c) ≡ ready_now c = and_up (has first.readies c) (has gates c) gate_up ∙ carries ∙ ready_offered in
          cycle.carried_by w round c x plug at pat Outward way plug.ready (numbered (codes "r_") c) 1 _ (inr (inl refl)) (top.top_r w c x at)
          (top.ready_bit w c x at settled ∙ ap truth (sym same))

    carry : CarryRow T (replay_links a) v a false first
    carry = record {
      clock = clock_carries w round v false on.held;
      reset = reset_carries w round v false on.held;
      ties = ties_carry w round v false on.held;
      channels = λ c x plug at pat. carry_plug c x at plug pat x.dir refl (on.content c x at) (first_carries c x at);
    }

    abbrev row : Row
    row = cycle.row w round settled small on.held.clock fresh before offers are gates below carry

    abbrev out : List ℕ
    out = outputs d (cycle.inner w round settled small on.held.clock)

    out_net : (pin : Pin) (k : ℕ) (y : Name) → IsPin d Output k pin → Has (replay_links a) (link pin y) → HasNet T y k
        → get_or out pin.place 0 ≡ v (y ∷ [])
    out_net pin k y p there net = cycle.out_net w round settled small on.held.clock pin k y p there net

    -- what a channel's ports and wires show of the row
    record OnChannel (c : ℕ) (dir : Dir) (ws : List ℕ) : Type 0 where
      valid : v (numbered (codes "v_") c ∷ []) ≡ truth (has row.valids c)
      ready : v (numbered (codes "r_") c ∷ []) ≡ truth (has row.readies c)
      content : HasContent v (content_base dir) c ws (content_at a.channels row.contents c)

    module _ (c : ℕ) (x : Channel) (at : slice_get a.channels c ≡ Some x) where
      on_channel : (plug : Plug) → slice_get a.plugs c ≡ Some plug → (dir : Dir) → x.dir ≡ dir
          → IsPlug d (record { dir = dir; name = x.name; widths = x.widths }) plug → HasFedContent v a.channels feed c dir x.widths
          → CarriesOn a.channels offers row c dir → ShowsPlug out a.channels row c dir plug → OnChannel c dir x.widths
      on_channel plug pat Inward way p fed carries shows = record {
        valid = top.valid_bit w c x at settled ∙ ap truth (sym (carries.0 ∙ valid_offered c x at));
        ready = bit_same (has row.readies c) _ (get_or out plug.ready.place 0) (top.ready_bit w c x at settled) shows
            (out_net plug.ready 1 (numbered (codes "r_") c) p.ready (cycle.joins w round c x plug at pat Inward way plug.ready _ (inr (inl refl)))
            (top.top_r w c x at));
        content = λ i k e.
            top.content_is w c x at settled way i k (valid_now c) e (top.valid_bit w c x at settled)
            ∙ shown_case (valid_now c) _ (content_at a.channels feed.contents c) (content_at a.channels row.contents c) (no_content a.channels c) i
            (fed i k e)
            (carries.1 ∙ ap (λ b. if b then content_at a.channels feed.contents c else no_content a.channels c) (valid_offered c x at))
            (zero_at _ i);
      }
      on_channel plug pat Outward way p fed carries shows = record {
        valid = bit_same (has row.valids c) _ (get_or out plug.valid.place 0) (top.valid_bit w c x at settled) shows.0
            (out_net plug.valid 1 (numbered (codes "v_") c) p.valid (cycle.joins w round c x plug at pat Outward way plug.valid _ (inl refl))
            (top.top_v w c x at));
        ready = top.ready_bit w c x at settled ∙ ap truth (sym (carries ∙ ready_offered c x at));
        content = λ i k e.
            (let b = beside (λ k pin. IsPin d Output k pin) x.widths plug.contents p.contents i k e in
            sym (out_net b.pin k (numbered_twice (codes "d_") c i) b.is
            (cycle.joins w round c x plug at pat Outward way b.pin _
            (inr (inr (has_each (λ i pin. link pin (numbered_twice (codes "d_") c i)) 0 plug.contents i b.pin i (omega arith) b.at))))
            (top.top_d w c x at way i k e))
            ∙ sym (cycle.get_mapped (λ (q : Pin). slice_index out q.place) plug.contents i b.pin b.at)
            ∙ ap (λ xs. slice_index xs i) (sym shows.1));
      }

      carried_here : CarriesOn a.channels offers row c x.dir
      carried_here = cycle.carried w round settled small on.held.clock fresh before offers are gates below carry c x at

      here : OnChannel c x.dir x.widths
      here =
          (let p = cycle.plug_here w round settled small on.held.clock fresh before offers are gates below carry c x at in
          on_channel p.plug p.at x.dir refl p.is (on.content c x at) carried_here
          (cycle.shows_here w round settled small on.held.clock fresh before offers are gates below carry c x at))

      -- whether the next event is there and covered
      was : (j : ℕ) → j < n → s.nets (counter_name c j) ≡ done rows j
      was j l = counts c x at j l

      abbrev up : Bool
      up = top.up w c x at settled (done rows) (λ j l. few j) was (has feed.more c) (on.more c x at)

      up_is : (up ≡ true) ↔ IsUp n feed (done rows) c
      up_is =
          let r = reached_is (done rows) (λ j. v (numbered (codes "q_") c ∷ numbered (codes "n") j ∷ [])) 0 n (has feed.more c) in
          let need : (j : ℕ) → j < n → v (numbered (codes "q_") c ∷ numbered (codes "n") j ∷ []) ≡ need_of n feed c j =
          λ j l. top.need_in w c x at settled j l ∙ on.need c x at j l in (
            (λ t. (
              (r.0 t).0,
              (λ j l.
                  (let e = need j l in
                  let le = (r.0 t).1 j (omega arith) (omega (arith, l)) in omega (arith, e, le))),
            )),
            (λ u. r.1 (
              u.0,
              (λ j low high.
                  (let l : j < n = omega (arith, high) in
                  let e = need j l in
                  let le = u.1 j l in omega (arith, e, le))),
            )),
          )

      fed_on : (dir : Dir) → x.dir ≡ dir → CarriesOn a.channels offers row c dir → IsFedOn a.channels feed (done rows) row c dir
      fed_on Inward way carries = (
        along (has row.valids c) up
            (same_bit (has row.valids c) up (v (numbered (codes "v_") c ∷ [])) here.valid
            (top.valid_is w c x at settled (done rows) (λ j l. few j) was (has feed.more c) (on.more c x at) way)) up_is,
        carries.1 ∙ ap (λ b. if b then content_at a.channels feed.contents c else no_content a.channels c) (sym carries.0),
      )
      fed_on Outward way carries =
          along (has row.readies c) up
          (same_bit (has row.readies c) up (v (numbered (codes "r_") c ∷ [])) here.ready
          (top.ready_is w c x at settled (done rows) (λ j l. few j) was (has feed.more c) (on.more c x at) way)) up_is

      pop : v (numbered (codes "pop_") c ∷ []) ≡ truth (completes row c)
      pop =
          top.pop_is w c x at settled (has row.valids c) (has row.readies c) here.valid here.ready
          ∙ ap (λ b. truth (b && has row.readies c)) (sym (and_up (has row.valids c) (has gates c) (gate_up c x at)))

    replays : Replays f a d T s v rows feed row
    replays =
        let marked = cycle.marked w round settled small on.held.clock fresh before offers are gates below carry in
        let is = cycle.is_shown w round settled small on.held.clock fresh before offers are gates below carry in
        record {
          shown = record {
            over = is.over;
            marked = marked;
            fed = λ c x at. fed_on c x at x.dir refl (carried_here c x at);
            gates_are = refl;
            after = is.after;
            step = is.step;
          };
          ports = record {
            valid = λ c x at. (here c x at).valid;
            ready = λ c x at. (here c x at).ready;
            content = λ c x at. (here c x at).content;
            pop = λ c x at. pop c x at;
          };
          next = λ after goes. (
            cycle.goes_to w round settled small on.held.clock fresh before offers are gates below carry after goes,
            (λ c x at j l.
                top.counter_is w c x at settled (done rows) (λ j l. few j) (was c x at) (has row.ends)
                (λ j l. (let y = channel-at a.channels j l in pop j y.0 y.1 ∙ ap truth (sym (marked.ends j))))
                (top.all_pops w) room (λ j l. most j) after goes j l
                ∙ sym (count-push (row_does End j) rows row)),
          );
        }

pub replays_rows : ReplaysRows
replays_rows f a m d w T s pins v h rows short counts feed over on fresh =
    let same : T ≡ replay_top a m.ports =
    files.top_is w replay_name T (replay_top a m.ports) h.named (files.replay_there w) refl in
    let settled : IsSettled (wrapped f a).modules (replay_top a m.ports) s pins v =
    subst (λ (t : ModuleOf ℕ). IsSettled (wrapped f a).modules t s pins v) same h.settled in
    let narrow : AreNarrow (wrapped f a).modules (replay_top a m.ports) s.words =
    subst (λ (t : ModuleOf ℕ). AreNarrow (wrapped f a).modules t s.words) same h.narrow in (
      row w settled narrow fresh rows short counts feed over on,
      refl,
      subst (λ (t : ModuleOf ℕ). Replays f a d t s v rows feed (row w settled narrow fresh rows short counts feed over on)) (sym same)
          (replays w settled narrow fresh rows short counts feed over on),
    )
