-- Reset cycles and the beginning of the top that records.
use Rattle.std.proofs.Common.{◌≡◌, ℕ, ◌==◌, ◌&&◌, Bool, true, false, not, if◌then◌else◌, List, [], ◌∷◌}
use Rattle.std.proofs.Common.{Option, None, Some, refl, sym, ap, ◌∙◌, subst, arith, slice_get, inl, inr}
use Rattle.std.specs.Prelude.{codes}
use Rattle.net_order.specs.vidi_bits.Number.{truth}
use Rattle.net_order.proofs.vidi_bits_lemmas.Each.{each_append}
use Rattle.vlog_tree.specs.Tree.{PortOf, ModuleOf, FileOf}
use Rattle.net_design.specs.declared.design.Design.{Design}
use Rattle.net_design.specs.Settled as design
use Rattle.flat_parts.specs.vlog_driver.Names.{Name, Full, State}
use Rattle.flat_parts.specs.vlog_driver.Next.{IsNext, IsInitial}
use Rattle.flat_parts.specs.vlog_driver.Settled.{IsSettled}
use Rattle.flat_parts.specs.Meaning.{AreNarrow}
use Rattle.chan_replayer.specs.trace_model.declared.channel.Channel.{Channel}
use Rattle.chan_replayer.specs.trace_model.declared.channel.Dir.{Dir}
use Rattle.chan_replayer.specs.trace_model.declared.channel.Dir.TheVariants.{Inward, Outward}
use Rattle.chan_replayer.specs.trace_model.declared.row.Row.{Row}
use Rattle.chan_replayer.specs.trace_model.Row.{content_at, flies_after}
use Rattle.chan_replayer.specs.chan_map.declared.pins.Map.{Map}
use Rattle.chan_replayer.specs.chan_map.declared.pins.Plug.{Plug}
use Rattle.chan_replayer.specs.run_model.Pins.{shown_number, silent, ArePins}
use Rattle.chan_replayer.specs.run_model.Step as run
use Rattle.chan_replayer.proofs.chan_monitor_lemmas.Held.{silent-small}
use Rattle.shim_trees.specs.Pieces.{numbered, numbered_twice, each, gated_content, input, output}
use Rattle.shim_trees.specs.Links.{link, record_links}
use Rattle.shim_trees.specs.Monitor.{monitor, events}
use Rattle.shim_trees.specs.RecordTop.{record_name, record_top, monitor_conns}
use Rattle.shim_trees.specs.Wrapped.{wrapped}
use Rattle.shim_step.specs.Part.{pins_below}
use Rattle.shim_step.specs.Plain.{nets_of, HasNoInit, HasNoInits}
use Rattle.shim_step.proofs.Elements.{has_contains}
use Rattle.shim_step.proofs.Initial.{nets_begin}
use Rattle.shim_step.specs.Wrapped.{IsWrapped, DUT, Flies}
use Rattle.shim_step.specs.Ports.{HasReset}
use Rattle.shim_step.specs.Recording.{own_state, RecordsResets, RecordsBegin}
use Rattle.shim_step.proofs.Lists.{has_each, all_each}
use Rattle.shim_step.proofs.Files as files
use Rattle.shim_step.proofs.Stand.{at_of}
use Rattle.shim_step.proofs.Entered.{CarryPlug, CarryRow, pins_enter}
use Rattle.shim_step.proofs.Round.{IsRound, clock_carries, reset_carries, ties_carry}
use Rattle.shim_step.proofs.Recorder as top
use Rattle.shim_step.proofs.Monitor as mon
use Rattle.shim_step.proofs.Cycle as cycle
use Rattle.shim_step.proofs.Cycle.{quiet, part_begins}

and_down : (b : Bool) → (b && false) ≡ false
and_down true = refl
and_down false = refl

content_down : (b : Bool) (y : ℕ) → (if b && false then y else 0) ≡ 0
content_down true y = refl
content_down false y = refl

flight_down : (b r : Bool) → ((b && false) && not r) ≡ false
flight_down true r = refl
flight_down false r = refl

module _ {f : FileOf ℕ} {a : Map} {m : ModuleOf ℕ} {d : Design} (w : IsWrapped f a m d) where
  abbrev T : ModuleOf ℕ
  T = record_top a m.ports

  abbrev W : Name
  W = codes "w_"

  round : IsRound f a m (codes "w_") (codes "w_") (record_top a m.ports)
  round = top.round w

  module _ {s : State} {pins : List ℕ} {v : Full → ℕ} (settled : IsSettled (files.more_of f a) (record_top a m.ports) s pins v)
      (small : AreNarrow (files.more_of f a) (record_top a m.ports) s.words) (on : HasReset a v) where
    abbrev valid_now : ℕ → Bool
    valid_now c = v (numbered (codes "v_") c ∷ []) == 1

    abbrev ready_now : ℕ → Bool
    ready_now c = v (numbered (codes "r_") c ∷ []) == 1

    carry_plug : (c : ℕ) (x : Channel) (plug : Plug) (at : slice_get a.channels c ≡ Some x) → slice_get a.plugs c ≡ Some plug
        → (dir : Dir) → x.dir ≡ dir → CarryPlug T (record_links a) v a.channels silent c dir x.widths plug
    carry_plug c x plug at pat Inward way =
        let q = quiet c in (
          cycle.carried_by w round c x plug at pat Inward way plug.valid (numbered W c) 1 _ (inl refl) (top.top_w w c x at)
              (top.passed_valid w c x at settled false (valid_now c) (ready_now c) (on.gate c x at) (top.valid_bit w c x at settled)
              (top.ready_bit w c x at settled) way
              ∙ ap truth (and_down (valid_now c)) ∙ ap truth (sym q.valid)),
          (λ i n pin e pe.
              cycle.carried_by w round c x plug at pat Inward way pin (numbered_twice (codes "k_") c i) n _
              (inr (inr (has_each (λ i pin. link pin (numbered_twice (codes "k_") c i)) 0 plug.contents i pin i (omega arith) pe)))
              (top.top_k w c x at way i n e)
              (top.passed_content w c x at settled false (valid_now c) (ready_now c) (on.gate c x at) (top.valid_bit w c x at settled)
              (top.ready_bit w c x at settled) way i n e
              ∙ content_down (valid_now c) _
              ∙ ap (λ b. shown_number b (content_at a.channels silent.contents c) i) (sym q.valid))),
        )
    carry_plug c x plug at pat Outward way =
        cycle.carried_by w round c x plug at pat Outward way plug.ready (numbered W c) 1 _ (inr (inl refl)) (top.top_w w c x at)
        (top.passed_ready w c x at settled false (valid_now c) (ready_now c) (on.gate c x at) (top.valid_bit w c x at settled)
        (top.ready_bit w c x at settled) way
        ∙ ap truth (and_down (ready_now c)) ∙ ap truth (sym (quiet c).ready))

    carry : CarryRow T (record_links a) v a true silent
    carry = record {
      clock = clock_carries w round v true on.held;
      reset = reset_carries w round v true on.held;
      ties = ties_carry w round v true on.held;
      channels = λ c x plug at pat. carry_plug c x plug at pat x.dir refl;
    }

    entered : ArePins d a true silent (pins_below m DUT v)
    entered = pins_enter round.dut settled d w.built.ports a w.mapped true silent (silent-small a.channels) carry

    goes : (before : Option Row) → Flies a before s → (after : State) → IsNext (files.more_of f a) (record_top a m.ports) s v after
        → run.IsNext d (pins_below m DUT v) (own_state d s) (own_state d after) × Flies a None after
    goes before flies after next = (
      record {
        v = cycle.inner w round settled small on.held.clock;
        settled = cycle.settled_inside w round settled small on.held.clock;
        next = sym (cycle.next_inside w round settled small on.held.clock after next);
      },
      (λ c x at.
          top.flight_is w c x at settled false (valid_now c) (ready_now c) (on.gate c x at) (top.valid_bit w c x at settled)
          (top.ready_bit w c x at settled) (flies_after before c) (flies c x at) after next
          ∙ ap truth (flight_down (valid_now c) (ready_now c))),
    )

  -- ---- the initial state
  no_inits : (c : ℕ) (x : Channel) → HasNoInits (monitor c x.widths)
  no_inits c x =
      let sources = each (λ i w. input (numbered (codes "s") i) w) 0 x.widths in
      let sinks = each (λ i w. output (numbered (codes "k") i) w) 0 x.widths in
      record {
        ports = (
          refl,
          (
            refl,
            (
              refl,
              (
                refl,
                each_append (λ (p : PortOf ℕ). p.init ≡ None) sources _
                    (all_each (λ (p : PortOf ℕ). p.init ≡ None) (λ i w. input (numbered (codes "s") i) w) (λ i w. refl) 0 x.widths) (
                      refl,
                      (
                        refl,
                        each_append (λ (p : PortOf ℕ). p.init ≡ None) sinks _
                            (all_each (λ (p : PortOf ℕ). p.init ≡ None) (λ i w. output (numbered (codes "k") i) w) (λ i w. refl) 0 x.widths)
                            (refl, (refl, tt)),
                      ),
                    ),
              ),
            ),
          ),
        );
        items = (
          (refl, tt),
          (
            tt,
            (
              tt,
              each_append HasNoInit (each gated_content 0 x.widths) events
                  (all_each HasNoInit gated_content (λ i w. tt) 0 x.widths) (tt, (tt, (tt, tt))),
            ),
          ),
        );
      }

  begins : (s : State) → IsInitial (files.more_of f a) (record_top a m.ports) s
      → (design.initial d ≡ own_state d s) × Flies a None s
  begins s h = (
    part_begins w round s h,
    (λ c x at.
        nets_begin (files.more_of f a) (record_top a m.ports) s h (numbered (codes "m_") c ∷ []) (monitor c x.widths)
        (mon.monitor_plain c x.widths (files.differ w (monitor c x.widths) (files.monitor_there w c x at))) (no_inits c x)
        (at_of (top.top_plain w) (numbered (codes "vidi_m_") c) (numbered (codes "m_") c) (monitor_conns c x.dir x.widths)
        (top.monitor_stands w c x at) (monitor c x.widths) (has_contains (files.more_of f a) (monitor c x.widths) (files.monitor_there w c x at)) refl)
        (record { name = codes "fly"; value = record { width = 1 } })
        (has_contains (nets_of (monitor c x.widths)) _ (mon.has_fly c x.widths).0)),
  )

pub records_resets : RecordsResets
records_resets f a m d w T s pins v h before flies on =
    let same : T ≡ record_top a m.ports =
    files.top_is w record_name T (record_top a m.ports) h.named (files.record_there w) refl in
    let settled : IsSettled (wrapped f a).modules (record_top a m.ports) s pins v =
    subst (λ (t : ModuleOf ℕ). IsSettled (wrapped f a).modules t s pins v) same h.settled in
    let narrow : AreNarrow (wrapped f a).modules (record_top a m.ports) s.words =
    subst (λ (t : ModuleOf ℕ). AreNarrow (wrapped f a).modules t s.words) same h.narrow in (
      entered w settled narrow on,
      (λ after goes_on.
          goes w settled narrow on before flies after (subst (λ (t : ModuleOf ℕ). IsNext (wrapped f a).modules t s v after) same goes_on)),
    )

pub records_begin : RecordsBegin
records_begin f a m d w T t s h =
    let same : T ≡ record_top a m.ports =
    files.top_is w record_name T (record_top a m.ports) t (files.record_there w) refl in
    begins w s (subst (λ (u : ModuleOf ℕ). IsInitial (wrapped f a).modules u s) same h)
