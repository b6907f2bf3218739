-- Reset cycles and the beginning of the top that replays.
use Rattle.std.proofs.Common.{◌≡◌, ℕ, ◌+◌, ◌<◌, ◌^◌, ◌==◌, ◌&&◌, Bool, true, false, List, [], ◌∷◌, length}
use Rattle.std.proofs.Common.{None, Some, refl, sym, ap, ◌∙◌, subst, arith, slice_get, inl, inr}
use Rattle.std.specs.Prelude.{codes}
use Rattle.std.specs.List.{AllByRecursion}
use Rattle.net_order.specs.vidi_bits.Number.{truth}
use Rattle.net_order.proofs.vidi_bits_lemmas.Each.{each_append}
use Rattle.vlog_tree.specs.Tree.{PortOf, ModuleOf, FileOf}
use Rattle.net_design.specs.declared.design.Design.{Design}
use Rattle.net_design.specs.Settled as design
use Rattle.flat_parts.specs.vlog_driver.Names.{Full, State}
use Rattle.flat_parts.specs.vlog_driver.Next.{IsNext, IsInitial}
use Rattle.flat_parts.specs.vlog_driver.Settled.{IsSettled}
use Rattle.flat_parts.specs.Meaning.{AreNarrow}
use Rattle.chan_replayer.specs.trace_model.declared.channel.Channel.{Channel}
use Rattle.chan_replayer.specs.trace_model.declared.channel.Dir.{Dir}
use Rattle.chan_replayer.specs.trace_model.declared.channel.Dir.TheVariants.{Inward, Outward}
use Rattle.chan_replayer.specs.trace_model.Row.{content_at}
use Rattle.chan_replayer.specs.chan_map.declared.pins.Map.{Map}
use Rattle.chan_replayer.specs.chan_map.declared.pins.Plug.{Plug}
use Rattle.chan_replayer.specs.run_model.Pins.{shown_number, silent, ArePins}
use Rattle.chan_replayer.specs.run_model.Step as run
use Rattle.chan_replayer.proofs.run_model_lemmas.RowParts.{channel-at}
use Rattle.chan_replayer.proofs.chan_monitor_lemmas.Held.{silent-small}
use Rattle.shim_trees.specs.Pieces.{numbered, numbered_twice, each, upto, reg, gated_content, input, output}
use Rattle.shim_trees.specs.Links.{link, replay_links}
use Rattle.shim_trees.specs.Replayer.{replayer, side_ports, shown_items}
use Rattle.shim_trees.specs.ReplayTop.{replay_name, replay_top, replayer_conns}
use Rattle.shim_trees.specs.Wrapped.{wrapped}
use Rattle.shim_step.specs.Part.{pins_below}
use Rattle.shim_step.specs.Plain.{nets_of, HasNoInit, HasNoInits}
use Rattle.shim_step.proofs.Elements.{has_contains}
use Rattle.shim_step.proofs.Initial.{nets_begin}
use Rattle.shim_step.specs.Wrapped.{IsWrapped, DUT, Counts, counter_name}
use Rattle.shim_step.specs.Ports.{HasNoFeed}
use Rattle.shim_step.specs.Recording.{own_state}
use Rattle.shim_step.specs.Replaying.{ReplaysResets, ReplaysBegin}
use Rattle.shim_step.proofs.Lists.{has_each, all_each, all_upto}
use Rattle.shim_step.proofs.Files as files
use Rattle.shim_step.proofs.Stand.{at_of}
use Rattle.shim_step.proofs.Counting.{reached, reached_is}
use Rattle.shim_step.proofs.Entered.{CarryPlug, CarryRow, pins_enter}
use Rattle.shim_step.proofs.Round.{IsRound, clock_carries, reset_carries, ties_carry}
use Rattle.shim_step.proofs.Replayed as top
use Rattle.shim_step.proofs.Replayer as rep
use Rattle.shim_step.proofs.Cycle as cycle
use Rattle.shim_step.proofs.Cycle.{quiet, part_begins}

-- without a next event nothing is up
stays_down : (b : Bool) → (b ≡ true → ⊥) → b ≡ false
stays_down true never = absurd (never refl)
stays_down false never = refl

reached_down : (have need : ℕ → ℕ) (i count : ℕ) → reached have need i count false ≡ false
reached_down have need i count = stays_down (reached have need i count false) (λ t. down ((reached_is have need i count false).0 t).0) where
  down : false ≡ true → ⊥
  down e = (cc)

and_down : (b : Bool) → (b && false) ≡ false
and_down true = refl
and_down false = refl

module _ {f : FileOf ℕ} {a : Map} {m : ModuleOf ℕ} {d : Design} (w : IsWrapped f a m d) where
  abbrev T : ModuleOf ℕ
  T = replay_top a m.ports

  abbrev n : ℕ
  n = length a.channels

  round : IsRound f a m (codes "v_") (codes "r_") (replay_top a m.ports)
  round = top.round w

  module _ {s : State} {pins : List ℕ} {v : Full → ℕ} (settled : IsSettled (files.more_of f a) (replay_top a m.ports) s pins v)
      (small : AreNarrow (files.more_of f a) (replay_top a m.ports) s.words) (counts : Counts a [] s) (on : HasNoFeed a v) where
    abbrev none : ℕ → ℕ
    none j = 0

    few : (j : ℕ) → j < n → none j < 2 ^ 32
    few j l = omega arith

    most : (j : ℕ) → j < n → none j + 1 < 2 ^ 32
    most j l = omega arith

    room : n < 2 ^ 64
    room = (let least = w.mapped.table.few in omega (arith, least))

    module _ (c : ℕ) (x : Channel) (at : slice_get a.channels c ≡ Some x) where
      was : (j : ℕ) → j < n → s.nets (counter_name c j) ≡ none j
      was j l = counts c x at j l

      down : top.up w c x at settled none few was false (on.more c x at) ≡ false
      down = reached_down none _ 0 n

      valid_down : x.dir ≡ Inward → v (numbered (codes "v_") c ∷ []) ≡ truth false
      valid_down way = top.valid_is w c x at settled none few was false (on.more c x at) way ∙ ap truth down

      ready_down : x.dir ≡ Outward → v (numbered (codes "r_") c ∷ []) ≡ truth false
      ready_down way = top.ready_is w c x at settled none few was false (on.more c x at) way ∙ ap truth down

      pop_by : (dir : Dir) → x.dir ≡ dir → v (numbered (codes "pop_") c ∷ []) ≡ truth false
      pop_by Inward way =
          top.pop_is w c x at settled false (v (numbered (codes "r_") c ∷ []) == 1) (valid_down way) (top.ready_bit w c x at settled)
      pop_by Outward way =
          top.pop_is w c x at settled (v (numbered (codes "v_") c ∷ []) == 1) false (top.valid_bit w c x at settled) (ready_down way)
          ∙ ap truth (and_down (v (numbered (codes "v_") c ∷ []) == 1))

      carry_plug : (plug : Plug) → slice_get a.plugs c ≡ Some plug → (dir : Dir) → x.dir ≡ dir
          → CarryPlug T (replay_links a) v a.channels silent c dir x.widths plug
      carry_plug plug pat Inward way =
          let q = quiet c in (
            cycle.carried_by w round c x plug at pat Inward way plug.valid (numbered (codes "v_") c) 1 _ (inl refl) (top.top_v w c x at)
                (valid_down way ∙ ap truth (sym q.valid)),
            (λ i k pin e pe.
                cycle.carried_by w round c x plug at pat Inward way pin (numbered_twice (codes "k_") c i) k _
                (inr (inr (has_each (λ i pin. link pin (numbered_twice (codes "k_") c i)) 0 plug.contents i pin i (omega arith) pe)))
                (top.top_k w c x at way i k e)
                (top.content_is w c x at settled way i k false e (valid_down way)
                ∙ ap (λ b. shown_number b (content_at a.channels silent.contents c) i) (sym q.valid))),
          )
      carry_plug plug pat Outward way =
          cycle.carried_by w round c x plug at pat Outward way plug.ready (numbered (codes "r_") c) 1 _ (inr (inl refl)) (top.top_r w c x at)
          (ready_down way ∙ ap truth (sym (quiet c).ready))

    carry : CarryRow T (replay_links a) v a true silent
    carry = record {
      clock = clock_carries w round v true on.held;
      reset = reset_carries w round v true on.held;
      ties = ties_carry w round v true on.held;
      channels = λ c x plug at pat. carry_plug c x at plug pat x.dir refl;
    }

    entered : ArePins d a true silent (pins_below m DUT v)
    entered = pins_enter round.dut settled d w.built.ports a w.mapped true silent (silent-small a.channels) carry

    goes : (after : State) → IsNext (files.more_of f a) (replay_top a m.ports) s v after
        → run.IsNext d (pins_below m DUT v) (own_state d s) (own_state d after) × Counts a [] after
    goes after next = (
      record {
        v = cycle.inner w round settled small on.held.clock;
        settled = cycle.settled_inside w round settled small on.held.clock;
        next = sym (cycle.next_inside w round settled small on.held.clock after next);
      },
      (λ c x at j l.
          top.counter_is w c x at settled none few (was c x at) (λ i. false)
          (λ i k. (let y = channel-at a.channels i k in pop_by i y.0 y.1 y.0.dir refl)) (top.all_pops w) room most after next j l),
    )

  -- ---- the initial state
  no_port_inits : (dir : Dir) (ws : List ℕ) → AllByRecursion (λ (p : PortOf ℕ). p.init ≡ None) (side_ports dir ws)
  no_port_inits Inward ws =
      each_append (λ (p : PortOf ℕ). p.init ≡ None) (each (λ i w. input (numbered (codes "s") i) w) 0 ws) _
      (all_each (λ (p : PortOf ℕ). p.init ≡ None) (λ i w. input (numbered (codes "s") i) w) (λ i w. refl) 0 ws)
      (refl, (refl, all_each (λ (p : PortOf ℕ). p.init ≡ None) (λ i w. output (numbered (codes "k") i) w) (λ i w. refl) 0 ws))
  no_port_inits Outward ws = (refl, (refl, tt))

  no_item_inits : (count : ℕ) (dir : Dir) (ws : List ℕ) → AllByRecursion HasNoInit (shown_items count dir ws)
  no_item_inits count Inward ws =
      (tt, each_append HasNoInit (each gated_content 0 ws) _ (all_each HasNoInit gated_content (λ i w. tt) 0 ws) (tt, tt))
  no_item_inits count Outward ws = (tt, (tt, tt))

  no_inits : (c : ℕ) (x : Channel) → HasNoInits (replayer (length a.channels) c x)
  no_inits c x = record {
    ports = (
      refl,
      (
        refl,
        each_append (λ (p : PortOf ℕ). p.init ≡ None) (upto (λ j. input (numbered (codes "n") j) 32) 0 n) _
            (all_upto (λ (p : PortOf ℕ). p.init ≡ None) (λ j. input (numbered (codes "n") j) 32) (λ j. refl) 0 n)
            (each_append (λ (p : PortOf ℕ). p.init ≡ None) (upto (λ j. input (numbered (codes "d") j) 1) 0 n) _
            (all_upto (λ (p : PortOf ℕ). p.init ≡ None) (λ j. input (numbered (codes "d") j) 1) (λ j. refl) 0 n)
            (each_append (λ (p : PortOf ℕ). p.init ≡ None) (side_ports x.dir x.widths) _ (no_port_inits x.dir x.widths) (refl, tt))),
      ),
    );
    items = each_append HasNoInit (upto (λ j. reg (numbered (codes "c") j) 32) 0 n) _
        (all_upto HasNoInit (λ j. reg (numbered (codes "c") j) 32) (λ j. (refl, tt)) 0 n)
        (each_append HasNoInit (shown_items n x.dir x.widths) _ (no_item_inits n x.dir x.widths) (tt, tt));
  }

  begins : (s : State) → IsInitial (files.more_of f a) (replay_top a m.ports) s
      → (design.initial d ≡ own_state d s) × Counts a [] s
  begins s h = (
    part_begins w round s h,
    (λ c x at j l.
        nets_begin (files.more_of f a) (replay_top a m.ports) s h (numbered (codes "q_") c ∷ []) (replayer (length a.channels) c x)
        (rep.replayer_plain (length a.channels) c x (files.differ w (replayer (length a.channels) c x) (files.replayer_there w c x at))) (no_inits c x)
        (at_of (top.top_plain w) (numbered (codes "vidi_q_") c) (numbered (codes "q_") c) (replayer_conns (length a.channels) c x.dir x.widths)
        (top.replayer_stands w c x at) (replayer (length a.channels) c x)
        (has_contains (files.more_of f a) (replayer (length a.channels) c x) (files.replayer_there w c x at)) refl)
        (record { name = numbered (codes "c") j; value = record { width = 32 } })
        (has_contains (nets_of (replayer (length a.channels) c x)) _ (rep.has_counter (length a.channels) c x j l).0)),
  )

pub replays_resets : ReplaysResets
replays_resets f a m d w T s pins v h counts on =
    let same : T ≡ replay_top a m.ports =
    files.top_is w replay_name T (replay_top a m.ports) h.named (files.replay_there w) refl in
    let settled : IsSettled (wrapped f a).modules (replay_top a m.ports) s pins v =
    subst (λ (t : ModuleOf ℕ). IsSettled (wrapped f a).modules t s pins v) same h.settled in
    let narrow : AreNarrow (wrapped f a).modules (replay_top a m.ports) s.words =
    subst (λ (t : ModuleOf ℕ). AreNarrow (wrapped f a).modules t s.words) same h.narrow in (
      entered w settled narrow counts on,
      (λ after goes_on.
          goes w settled narrow counts on after (subst (λ (t : ModuleOf ℕ). IsNext (wrapped f a).modules t s v after) same goes_on)),
    )

pub replays_begin : ReplaysBegin
replays_begin f a m d w T t s h =
    let same : T ≡ replay_top a m.ports =
    files.top_is w replay_name T (replay_top a m.ports) t (files.replay_there w) refl in
    begins w s (subst (λ (u : ModuleOf ℕ). IsInitial (wrapped f a).modules u s) same h)
