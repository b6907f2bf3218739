-- Lock step of the top that records.
use Rattle.std.proofs.Common.{◌≡◌, ℕ, ◌<◌, ◌^◌, ◌==◌, ◌&&◌, Bool, true, false, if◌then◌else◌, List, [], ◌∷◌, length}
use Rattle.std.proofs.Common.{Option, Some, refl, sym, ap, ◌∙◌, subst, arith, slice_get, get_or, inl, inr}
use Rattle.std.specs.Prelude.{codes, slice_index}
use Rattle.net_order.specs.vidi_bits.Number.{truth, has}
use Rattle.vlog_tree.specs.Tree.{ModuleOf, FileOf}
use Rattle.net_design.specs.declared.design.Design.{Design}
use Rattle.net_design.specs.declared.design.Direction.TheVariants.{Output}
use Rattle.net_design.specs.Pins.{outputs}
use Rattle.flat_parts.specs.vlog_driver.Names.{Name, Full, State}
use Rattle.flat_parts.specs.vlog_driver.Settled.{IsSettled}
use Rattle.flat_parts.specs.Meaning.{AreNarrow}
use Rattle.chan_replayer.specs.trace_model.declared.channel.Channel.{Channel}
use Rattle.chan_replayer.specs.trace_model.declared.channel.Dir.{Dir}
use Rattle.chan_replayer.specs.trace_model.declared.channel.Dir.TheVariants.{Inward, Outward}
use Rattle.chan_replayer.specs.trace_model.declared.row.Offers.{Offers}
use Rattle.chan_replayer.specs.trace_model.declared.row.Row.{Row}
use Rattle.chan_replayer.specs.trace_model.Row.{content_at, sink_valid, flies_after, AreOffers}
use Rattle.chan_replayer.specs.chan_map.declared.pins.Map.{Map}
use Rattle.chan_replayer.specs.chan_map.declared.pins.Pin.{Pin}
use Rattle.chan_replayer.specs.chan_map.declared.pins.Plug.{Plug}
use Rattle.chan_replayer.specs.chan_map.Bound.{IsPin, IsPlug}
use Rattle.chan_replayer.specs.run_model.Building.{row_of}
use Rattle.chan_replayer.specs.run_model.Offers.{CarriesOn, no_content}
use Rattle.chan_replayer.specs.run_model.Pins.{shown_number}
use Rattle.chan_replayer.specs.run_model.Step.{ShowsPlug}
use Rattle.chan_replayer.proofs.run_model_lemmas.RowParts.{row-carries}
use Rattle.shim_trees.specs.Pieces.{numbered, numbered_twice}
use Rattle.shim_trees.specs.Links.{link, record_links}
use Rattle.shim_trees.specs.RecordTop.{record_name, record_top}
use Rattle.shim_trees.specs.Wrapped.{wrapped}
use Rattle.shim_step.proofs.Elements.{Has}
use Rattle.shim_step.specs.Wrapped.{IsWrapped, Flies}
use Rattle.shim_step.specs.Ports.{HasOffer, HasOffers, ShowsContent}
use Rattle.shim_step.specs.Recording.{Records, RecordsRows}
use Rattle.shim_step.proofs.Lists.{has_each}
use Rattle.shim_step.proofs.Files as files
use Rattle.shim_step.proofs.Stand.{HasNet}
use Rattle.shim_step.proofs.Entered.{CarryPlug, CarryRow}
use Rattle.shim_step.proofs.Round.{IsRound, clock_carries, reset_carries, ties_carry}
use Rattle.shim_step.proofs.Recorder as top
use Rattle.shim_step.proofs.Cycle as cycle
use Rattle.shim_step.proofs.Cycle.{no_outputs, beside, not_done}

-- a content that passes the gate is the offered one while its valid is up
content_case : (b g : Bool) (d : ℕ) (mine shown none : List ℕ) (i : ℕ) → (b ≡ true → d ≡ slice_index mine i)
    → shown ≡ (if b then mine else none) → (if b && g then d else 0) ≡ shown_number (b && g) shown i
content_case true true d mine shown none i h e = h refl ∙ ap (λ xs. slice_index xs i) (sym e)
content_case true false d mine shown none i h e = refl
content_case false g d mine shown none i h e = refl

module _ {f : FileOf ℕ} {a : Map} {m : ModuleOf ℕ} {d : Design} (w : IsWrapped f a m d) {s : State} {pins : List ℕ} {v : Full → ℕ}
    (settled : IsSettled (files.more_of f a) (record_top a m.ports) s pins v)
    (small : AreNarrow (files.more_of f a) (record_top a m.ports) s.words) where
  abbrev T : ModuleOf ℕ
  T = record_top a m.ports

  abbrev W : Name
  W = codes "w_"

  round : IsRound f a m (codes "w_") (codes "w_") (record_top a m.ports)
  round = top.round w

  abbrev valid_now : ℕ → Bool
  valid_now c = v (numbered (codes "v_") c ∷ []) == 1

  abbrev ready_now : ℕ → Bool
  ready_now c = v (numbered (codes "r_") c ∷ []) == 1

  -- ---- offers and gates
  module _ (fresh : Bool) (before : Option Row) (flies : Flies a before s) (offers : Offers) (are : AreOffers a.channels offers) (gates : ℕ)
      (below : gates < 2 ^ length a.channels) (on : HasOffers a offers gates v) where
    abbrev first : Row
    first = row_of a fresh before offers gates []

    first_carries : (c : ℕ) (x : Channel) → slice_get a.channels c ≡ Some x → CarriesOn a.channels offers first c x.dir
    first_carries c x at = row-carries d a w.mapped fresh before offers are gates [] (no_outputs d) c x at

    carry_plug : (c : ℕ) (x : Channel) (plug : Plug) (at : slice_get a.channels c ≡ Some x) → slice_get a.plugs c ≡ Some plug
        → (dir : Dir) → x.dir ≡ dir → HasOffer v a.channels offers c dir x.widths → CarriesOn a.channels offers first c dir
        → CarryPlug T (record_links a) v a.channels first c dir x.widths plug
    carry_plug c x plug at pat Inward way offer carries =
        let valid = has offers.valids c in
        let gate = has gates c in
        let same : (has first.valids c && gate) ≡ (valid && gate) = ap (λ b. b && gate) carries.0 in (
          cycle.carried_by w round c x plug at pat Inward way plug.valid (numbered W c) 1 _ (inl refl) (top.top_w w c x at)
              (top.passed_valid w c x at settled gate valid (ready_now c) (on.gate c x at) offer.0 (top.ready_bit w c x at settled) way
              ∙ ap truth (sym same)),
          (λ i n pin e pe.
              cycle.carried_by w round c x plug at pat Inward way pin (numbered_twice (codes "k_") c i) n _
              (inr (inr (has_each (λ i pin. link pin (numbered_twice (codes "k_") c i)) 0 plug.contents i pin i (omega arith) pe)))
              (top.top_k w c x at way i n e)
              (top.passed_content w c x at settled gate valid (ready_now c) (on.gate c x at) offer.0 (top.ready_bit w c x at settled) way i n e
              ∙ content_case valid gate (v (numbered_twice (codes "d_") c i ∷ [])) (content_at a.channels offers.contents c)
              (content_at a.channels first.contents c) (no_content a.channels c) i (λ up. offer.1 up i n e) carries.1
              ∙ ap (λ b. shown_number b (content_at a.channels first.contents c) i) (sym same))),
        )
    carry_plug c x plug at pat Outward way offer carries =
        let ready = has offers.readies c in
        let gate = has gates c in
        cycle.carried_by w round c x plug at pat Outward way plug.ready (numbered W c) 1 _ (inr (inl refl)) (top.top_w w c x at)
        (top.passed_ready w c x at settled gate (valid_now c) ready (on.gate c x at) (top.valid_bit w c x at settled) offer way
        ∙ ap (λ b. truth (b && gate)) (sym carries))

    carry : CarryRow T (record_links a) v a false first
    carry = record {
      clock = clock_carries w round v false on.held;
      reset = reset_carries w round v false on.held;
      ties = ties_carry w round v false on.held;
      channels = λ c x plug at pat. carry_plug c x plug at pat x.dir refl (on.offered c x at) (first_carries c x at);
    }

    abbrev row : Row
    row = cycle.row w round settled small on.held.clock fresh before offers are gates below carry

    abbrev out : List ℕ
    out = outputs d (cycle.inner w round settled small on.held.clock)

    out_net : (pin : Pin) (n : ℕ) (y : Name) → IsPin d Output n pin → Has (record_links a) (link pin y) → HasNet T y n
        → get_or out pin.place 0 ≡ v (y ∷ [])
    out_net pin n y p there net = cycle.out_net w round settled small on.held.clock pin n y p there net

    -- what a channel's ports show of the row
    record OnChannel (c : ℕ) (dir : Dir) (ws : List ℕ) : Type 0 where
      valid : v (numbered (codes "v_") c ∷ []) ≡ truth (has row.valids c)
      ready : v (numbered (codes "r_") c ∷ []) ≡ truth (has row.readies c)
      content : ShowsContent v a.channels row c dir ws

    on_channel : (c : ℕ) (x : Channel) (at : slice_get a.channels c ≡ Some x) (plug : Plug) → slice_get a.plugs c ≡ Some plug → (dir : Dir)
        → x.dir ≡ dir → IsPlug d (record { dir = dir; name = x.name; widths = x.widths }) plug → HasOffer v a.channels offers c dir x.widths
        → CarriesOn a.channels offers row c dir → ShowsPlug out a.channels row c dir plug → OnChannel c dir x.widths
    on_channel c x at plug pat Inward way p offer carries shows = record {
      valid = offer.0 ∙ ap truth (sym carries.0);
      ready = cycle.bit_same (has row.readies c) _ (get_or out plug.ready.place 0) (top.ready_bit w c x at settled) shows
          (out_net plug.ready 1 (numbered (codes "r_") c) p.ready (cycle.joins w round c x plug at pat Inward way plug.ready _ (inr (inl refl)))
          (top.top_r w c x at));
      content = λ up i n e.
          (let offered : has offers.valids c ≡ true = sym carries.0 ∙ up in
          offer.1 offered i n e
          ∙ ap (λ xs. slice_index xs i)
          (sym (carries.1 ∙ ap (λ b. if b then content_at a.channels offers.contents c else no_content a.channels c) offered)));
    }
    on_channel c x at plug pat Outward way p offer carries shows = record {
      valid = cycle.bit_same (has row.valids c) _ (get_or out plug.valid.place 0) (top.valid_bit w c x at settled) shows.0
          (out_net plug.valid 1 (numbered (codes "v_") c) p.valid (cycle.joins w round c x plug at pat Outward way plug.valid _ (inl refl))
          (top.top_v w c x at));
      ready = offer ∙ ap truth (sym carries);
      content = λ i n e.
          (let b = beside (λ n pin. IsPin d Output n pin) x.widths plug.contents p.contents i n e in
          sym (out_net b.pin n (numbered_twice (codes "d_") c i) b.is
          (cycle.joins w round c x plug at pat Outward way b.pin _
          (inr (inr (has_each (λ i pin. link pin (numbered_twice (codes "d_") c i)) 0 plug.contents i b.pin i (omega arith) b.at))))
          (top.top_d w c x at i n e))
          ∙ sym (cycle.get_mapped (λ (q : Pin). slice_index out q.place) plug.contents i b.pin b.at)
          ∙ ap (λ xs. slice_index xs i) (sym shows.1));
    }

    here : (c : ℕ) (x : Channel) (at : slice_get a.channels c ≡ Some x) → OnChannel c x.dir x.widths
    here c x at =
        let p = cycle.plug_here w round settled small on.held.clock fresh before offers are gates below carry c x at in
        on_channel c x at p.plug p.at x.dir refl p.is (on.offered c x at)
        (cycle.carried w round settled small on.held.clock fresh before offers are gates below carry c x at)
        (cycle.shows_here w round settled small on.held.clock fresh before offers are gates below carry c x at)

    records : Records f a d T s v before offers gates row
    records =
        let marked = cycle.marked w round settled small on.held.clock fresh before offers are gates below carry in
        record {
          shown = cycle.is_shown w round settled small on.held.clock fresh before offers are gates below carry;
          ports = record {
            valid = λ c x at. (here c x at).valid;
            ready = λ c x at. (here c x at).ready;
            content = λ c x at. (here c x at).content;
            start = λ c x at.
                (let h = here c x at in
                top.start_is w c x at settled (has gates c) (has row.valids c) (has row.readies c) (on.gate c x at) h.valid h.ready
                (flies_after before c) (flies c x at) ∙ ap truth (sym (marked.starts c)));
            stop = λ c x at.
                (let h = here c x at in
                top.stop_is w c x at settled (has gates c) (has row.valids c) (has row.readies c) (on.gate c x at) h.valid h.ready
                (flies_after before c) (flies c x at) ∙ ap truth (sym (marked.ends c)));
          };
          next = λ after goes. (
            cycle.goes_to w round settled small on.held.clock fresh before offers are gates below carry after goes,
            (λ c x at.
                (let h = here c x at in
                top.flight_is w c x at settled (has gates c) (has row.valids c) (has row.readies c) (on.gate c x at) h.valid h.ready
                (flies_after before c) (flies c x at) after goes
                ∙ ap truth (not_done (sink_valid row c) (has row.readies c)))),
          );
        }

pub records_rows : RecordsRows
records_rows f a m d w T s pins v h before flies offers are gates below on fresh =
    let same : T ≡ record_top a m.ports =
    files.top_is w record_name T (record_top a m.ports) h.named (files.record_there w) refl in
    let settled : IsSettled (wrapped f a).modules (record_top a m.ports) s pins v =
    subst (λ (t : ModuleOf ℕ). IsSettled (wrapped f a).modules t s pins v) same h.settled in
    let narrow : AreNarrow (wrapped f a).modules (record_top a m.ports) s.words =
    subst (λ (t : ModuleOf ℕ). AreNarrow (wrapped f a).modules t s.words) same h.narrow in (
      row w settled narrow fresh before flies offers are gates below on,
      refl,
      subst (λ (t : ModuleOf ℕ). Records f a d t s v before offers gates (row w settled narrow fresh before flies offers are gates below on)) (sym same)
          (records w settled narrow fresh before flies offers are gates below on),
    )
