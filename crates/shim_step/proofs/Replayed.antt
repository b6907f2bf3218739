-- A channel of the top that replays: what it offers to the design, what completes, and its counters after the clock.
use Rattle.std.proofs.Common.{◌≡◌, ℕ, ◌+◌, ◌<◌, ◌^◌, ◌==◌, Bool, ◌&&◌, if◌then◌else◌, List, [], ◌∷◌, ◌++◌}
use Rattle.std.proofs.Common.{Some, refl, sym, ap, ◌∙◌, subst, arith, inl, inr, slice_get, length}
use Rattle.std.specs.Prelude.{codes}
use Rattle.std.specs.List.{AllByRecursion}
use Rattle.net_order.specs.vidi_bits.Number.{truth}
use Rattle.net_order.proofs.vidi_bits_lemmas.Each.{each_append}
use Rattle.vlog_tree.specs.Tree.{PortOf, ConnOf, ItemOf, ModuleOf, FileOf}
use Rattle.net_design.specs.declared.design.Design.{Design}
use Rattle.flat_parts.specs.vlog_driver.Names.{Full, State}
use Rattle.flat_parts.specs.vlog_driver.Next.{IsNext}
use Rattle.flat_parts.specs.vlog_driver.Settled.{IsSettled}
use Rattle.chan_replayer.specs.trace_model.declared.channel.Channel.{Channel}
use Rattle.chan_replayer.specs.trace_model.declared.channel.Dir.{Dir}
use Rattle.chan_replayer.specs.trace_model.declared.channel.Dir.TheVariants.{Inward, Outward}
use Rattle.chan_replayer.specs.chan_map.declared.pins.Map.{Map}
use Rattle.chan_replayer.proofs.run_model_lemmas.RowParts.{channel-at}
use Rattle.shim_trees.specs.Pieces.{Name, numbered, numbered_twice, each, each_some, upto, input, output, wire, conn}
use Rattle.shim_trees.specs.Links.{replay_links, dut, content_wires, tied_ports}
use Rattle.shim_trees.specs.Replayer.{replayer}
use Rattle.shim_trees.specs.ReplayTop.{fed_ports, shown_ports, replay_ports, replay_wires, side_conns, replayer_conns, replayer_item, replay_top}
use Rattle.shim_step.specs.Plain.{IsPlain, IsPlainItem}
use Rattle.shim_step.proofs.Elements.{Has, has_left, has_right, has_contains}
use Rattle.shim_step.specs.Wrapped.{IsWrapped, counter_name}
use Rattle.shim_step.proofs.Lists.{has_each, all_each, has_some, all_some, has_upto}
use Rattle.shim_step.proofs.Files as files
use Rattle.shim_step.proofs.Stand.{HasNet, port_has, wire_has, one_bit, Stand, inside, joined, bit_is, at_top}
use Rattle.shim_step.proofs.Replayer as rep
use Rattle.shim_step.proofs.Replayer.{word}
use Rattle.shim_step.proofs.Counting.{reached}
use Rattle.shim_step.proofs.Round.{IsRound, own_apart}
use Rattle.shim_step.proofs.Recorder.{content_width, wires_plain}

-- ---- the top
module _ {f : FileOf ℕ} {a : Map} {m : ModuleOf ℕ} {d : Design} (w : IsWrapped f a m d) where
  abbrev count : ℕ
  count = length a.channels

  abbrev T : ModuleOf ℕ
  T = replay_top a m.ports

  abbrev wires : List (ItemOf ℕ)
  wires = each_some replay_wires 0 a.channels

  abbrev behind_wires : List (ItemOf ℕ)
  behind_wires = dut (replay_links a) a.top m.ports ∷ each (replayer_item (length a.channels)) 0 a.channels

  top_items : AllByRecursion IsPlainItem (replay_top a m.ports).items
  top_items =
      each_append IsPlainItem wires behind_wires
      (all_some IsPlainItem replay_wires (λ n c. wires_plain n c.dir c.widths) 0 a.channels)
      (tt, all_each IsPlainItem (replayer_item (length a.channels)) (λ n c. tt) 0 a.channels)

  pub top_plain : IsPlain (replay_top a m.ports)
  top_plain = record { bare = refl; items = top_items; differ = files.differ w T (files.replay_there w) }

  pub round : IsRound f a m (codes "v_") (codes "r_") (replay_top a m.ports)
  round = record {
    dut = record {
      plain = top_plain;
      stands = subst (λ k. Has (replay_top a m.ports).items (dut (replay_links a) k m.ports)) (sym (files.named w))
          (has_right wires behind_wires (dut (replay_links a) a.top m.ports) (inl refl));
      design = has_contains (files.more_of f a) m (files.design_there w);
      own = own_apart w;
      once = files.once w m (files.design_there w);
    };
    clock = inl refl;
    tied = λ p h. inr (has_left (tied_ports a m.ports) (each_some (replay_ports (length a.channels)) 0 a.channels) p h);
  }

  -- ---- a channel
  module _ (c : ℕ) (x : Channel) (at : slice_get a.channels c ≡ Some x) where
    channel_port : (p : PortOf ℕ) → Has (replay_ports (length a.channels) c x) p → Has T.ports p
    channel_port p h =
        inr (has_right (tied_ports a m.ports) (each_some (replay_ports (length a.channels)) 0 a.channels) p
        (has_some (replay_ports (length a.channels)) 0 a.channels c x c p (omega arith) at h))

    abbrev needs : List (PortOf ℕ)
    needs = upto (λ j. input (numbered_twice (codes "n_") c j) 32) 0 count

    abbrev fed : List (PortOf ℕ)
    fed = fed_ports c x.dir x.widths

    abbrev lasts : List (PortOf ℕ)
    lasts =
        output (numbered (codes "v_") c) 1 ∷ output (numbered (codes "r_") c) 1 ∷ output (numbered (codes "pop_") c) 1
        ∷ shown_ports c x.dir x.widths

    last_port : (p : PortOf ℕ) → Has lasts p → Has T.ports p
    last_port p h = channel_port p (inr (has_right needs (fed ++ lasts) p (has_right fed lasts p h)))

    pub top_more : HasNet (replay_top a m.ports) (numbered (codes "more_") c) 1
    top_more = port_has T _ (numbered (codes "more_") c) 1 one_bit (channel_port (input (numbered (codes "more_") c) 1) (inl refl))

    pub top_need : (j : ℕ) → j < length a.channels → HasNet (replay_top a m.ports) (numbered_twice (codes "n_") c j) 32
    top_need j l =
        port_has T _ (numbered_twice (codes "n_") c j) 32 word
        (channel_port (input (numbered_twice (codes "n_") c j) 32) (inr (has_left needs (fed ++ lasts) _
        (has_upto (λ j. input (numbered_twice (codes "n_") c j) 32) 0 count j j (omega arith) l))))

    pub top_v : HasNet (replay_top a m.ports) (numbered (codes "v_") c) 1
    top_v = port_has T _ (numbered (codes "v_") c) 1 one_bit (last_port (output (numbered (codes "v_") c) 1) (inl refl))

    pub top_r : HasNet (replay_top a m.ports) (numbered (codes "r_") c) 1
    top_r = port_has T _ (numbered (codes "r_") c) 1 one_bit (last_port (output (numbered (codes "r_") c) 1) (inr (inl refl)))

    pub top_pop : HasNet (replay_top a m.ports) (numbered (codes "pop_") c) 1
    top_pop = port_has T _ (numbered (codes "pop_") c) 1 one_bit (last_port (output (numbered (codes "pop_") c) 1) (inr (inr (inl refl))))

    inward_fed : (dir : Dir) (i n : ℕ) → dir ≡ Inward → slice_get x.widths i ≡ Some n
        → Has (fed_ports c dir x.widths) (input (numbered_twice (codes "s_") c i) n)
    inward_fed Inward i n way e = has_each (λ i w. input (numbered_twice (codes "s_") c i) w) 0 x.widths i n i (omega arith) e
    inward_fed Outward i n way e = absurd (cc)

    pub top_s : x.dir ≡ Inward → (i n : ℕ) → slice_get x.widths i ≡ Some n → HasNet (replay_top a m.ports) (numbered_twice (codes "s_") c i) n
    top_s way i n e =
        port_has T _ (numbered_twice (codes "s_") c i) n (content_width w c x at i n e)
        (channel_port (input (numbered_twice (codes "s_") c i) n)
        (inr (has_right needs (fed ++ lasts) _ (has_left fed lasts _ (inward_fed x.dir i n way e)))))

    outward_shown : (dir : Dir) (i n : ℕ) → dir ≡ Outward → slice_get x.widths i ≡ Some n
        → Has (shown_ports c dir x.widths) (output (numbered_twice (codes "d_") c i) n)
    outward_shown Outward i n way e = has_each (λ i w. output (numbered_twice (codes "d_") c i) w) 0 x.widths i n i (omega arith) e
    outward_shown Inward i n way e = absurd (cc)

    pub top_d : x.dir ≡ Outward → (i n : ℕ) → slice_get x.widths i ≡ Some n → HasNet (replay_top a m.ports) (numbered_twice (codes "d_") c i) n
    top_d way i n e =
        port_has T _ (numbered_twice (codes "d_") c i) n (content_width w c x at i n e)
        (last_port (output (numbered_twice (codes "d_") c i) n) (inr (inr (inr (outward_shown x.dir i n way e)))))

    inward_wires : (dir : Dir) (i n : ℕ) → dir ≡ Inward → slice_get x.widths i ≡ Some n
        → Has (content_wires c dir x.widths) (wire (numbered_twice (codes "k_") c i) n)
    inward_wires Inward i n way e = has_each (λ i w. wire (numbered_twice (codes "k_") c i) w) 0 x.widths i n i (omega arith) e
    inward_wires Outward i n way e = absurd (cc)

    pub top_k : x.dir ≡ Inward → (i n : ℕ) → slice_get x.widths i ≡ Some n → HasNet (replay_top a m.ports) (numbered_twice (codes "k_") c i) n
    top_k way i n e =
        wire_has T (numbered_twice (codes "k_") c i) n (content_width w c x at i n e)
        (has_left wires behind_wires _
        (has_some replay_wires 0 a.channels c x c (wire (numbered_twice (codes "k_") c i) n) (omega arith) at (inward_wires x.dir i n way e)))

    -- ---- its replayer
    abbrev M : ModuleOf ℕ
    M = replayer (length a.channels) c x

    own : IsPlain (replayer (length a.channels) c x)
    own = rep.replayer_plain (length a.channels) c x (files.differ w M (files.replayer_there w c x at))

    abbrev conns : List (ConnOf ℕ)
    conns = replayer_conns (length a.channels) c x.dir x.widths

    abbrev need_conns : List (ConnOf ℕ)
    need_conns = upto (λ j. conn (numbered (codes "n") j) (numbered_twice (codes "n_") c j)) 0 count

    abbrev done_conns : List (ConnOf ℕ)
    done_conns = upto (λ j. conn (numbered (codes "d") j) (numbered (codes "pop_") j)) 0 count

    abbrev sides : List (ConnOf ℕ)
    sides = side_conns c x.dir x.widths

    abbrev pop_conns : List (ConnOf ℕ)
    pop_conns = conn (codes "pop") (numbered (codes "pop_") c) ∷ []

    behind_done : (k : ConnOf ℕ) → Has (sides ++ pop_conns) k → Has conns k
    behind_done k h =
        inr (inr (has_right need_conns (done_conns ++ (sides ++ pop_conns)) k (has_right done_conns (sides ++ pop_conns) k h)))

    in_side : (k : ConnOf ℕ) → Has sides k → Has conns k
    in_side k h = behind_done k (has_left sides pop_conns k h)

    abbrev in_sources : List (ConnOf ℕ)
    in_sources = each (λ i w. conn (numbered (codes "s") i) (numbered_twice (codes "s_") c i)) 0 x.widths

    abbrev in_sinks : List (ConnOf ℕ)
    in_sinks =
        conn (codes "kv") (numbered (codes "v_") c) ∷ conn (codes "kr") (numbered (codes "r_") c)
        ∷ each (λ i w. conn (numbered (codes "k") i) (numbered_twice (codes "k_") c i)) 0 x.widths

    inward_side : (dir : Dir) (k : ConnOf ℕ) → dir ≡ Inward → Has (in_sources ++ in_sinks) k → Has (side_conns c dir x.widths) k
    inward_side Inward k way h = h
    inward_side Outward k way h = absurd (cc)

    outward_side : (dir : Dir) (k : ConnOf ℕ) → dir ≡ Outward
        → Has (conn (codes "sv") (numbered (codes "v_") c) ∷ conn (codes "sr") (numbered (codes "r_") c) ∷ []) k → Has (side_conns c dir x.widths) k
    outward_side Outward k way h = h
    outward_side Inward k way h = absurd (cc)

    pub replayer_stands : Has (replay_top a m.ports).items (replayer_item (length a.channels) c x)
    replayer_stands =
        has_right wires behind_wires (replayer_item (length a.channels) c x)
        (inr (has_each (replayer_item (length a.channels)) 0 a.channels c x c (omega arith) at))

    module _ {s : State} {pins : List ℕ} {v : Full → ℕ} (settled : IsSettled (files.more_of f a) (replay_top a m.ports) s pins v) where
      abbrev x_q : Name
      x_q = numbered (codes "q_") c

      pub st : Stand (files.more_of f a) (replay_top a m.ports) s pins v (numbered (codes "q_") c ∷ []) (replayer (length a.channels) c x)
      st = inside settled top_plain (numbered (codes "vidi_q_") c) x_q conns replayer_stands M
          (has_contains (files.more_of f a) M (files.replayer_there w c x at)) refl own

      to : (inner outer : Name) (n : ℕ) → Has conns (conn inner outer) → HasNet (replayer (length a.channels) c x) inner n
          → HasNet (replay_top a m.ports) outer n → v (x_q ∷ inner ∷ []) ≡ v (outer ∷ [])
      to inner outer n h i o =
          joined settled top_plain (numbered (codes "vidi_q_") c) x_q conns replayer_stands M
          (has_contains (files.more_of f a) M (files.replayer_there w c x at)) refl own inner outer n h i o

      pub valid_bit : v (numbered (codes "v_") c ∷ []) ≡ truth (v (numbered (codes "v_") c ∷ []) == 1)
      valid_bit = bit_is (at_top settled top_plain) (numbered (codes "v_") c) top_v

      pub ready_bit : v (numbered (codes "r_") c ∷ []) ≡ truth (v (numbered (codes "r_") c ∷ []) == 1)
      ready_bit = bit_is (at_top settled top_plain) (numbered (codes "r_") c) top_r

      more_in : v (x_q ∷ codes "more" ∷ []) ≡ v (numbered (codes "more_") c ∷ [])
      more_in = to (codes "more") (numbered (codes "more_") c) 1 (inr (inl refl)) (rep.has_more (length a.channels) c x) top_more

      pub need_in : (j : ℕ) → j < length a.channels → v (x_q ∷ numbered (codes "n") j ∷ []) ≡ v (numbered_twice (codes "n_") c j ∷ [])
      need_in j l =
          to (numbered (codes "n") j) (numbered_twice (codes "n_") c j) 32
          (inr (inr (has_left need_conns (done_conns ++ (sides ++ pop_conns)) _
          (has_upto (λ j. conn (numbered (codes "n") j) (numbered_twice (codes "n_") c j)) 0 count j j (omega arith) l))))
          (rep.has_need (length a.channels) c x j l) (top_need j l)

      -- ---- completions
      kv_out : x.dir ≡ Inward → v (x_q ∷ codes "kv" ∷ []) ≡ v (numbered (codes "v_") c ∷ [])
      kv_out way =
          to (codes "kv") (numbered (codes "v_") c) 1
          (in_side _ (inward_side x.dir _ way (has_right in_sources in_sinks _ (inl refl)))) (rep.has_kv (length a.channels) c x way) top_v

      kr_in : x.dir ≡ Inward → v (x_q ∷ codes "kr" ∷ []) ≡ v (numbered (codes "r_") c ∷ [])
      kr_in way =
          to (codes "kr") (numbered (codes "r_") c) 1
          (in_side _ (inward_side x.dir _ way (has_right in_sources in_sinks _ (inr (inl refl))))) (rep.has_kr (length a.channels) c x way) top_r

      sv_in : x.dir ≡ Outward → v (x_q ∷ codes "sv" ∷ []) ≡ v (numbered (codes "v_") c ∷ [])
      sv_in way =
          to (codes "sv") (numbered (codes "v_") c) 1 (in_side _ (outward_side x.dir _ way (inl refl))) (rep.has_sv (length a.channels) c x way) top_v

      sr_out : x.dir ≡ Outward → v (x_q ∷ codes "sr" ∷ []) ≡ v (numbered (codes "r_") c ∷ [])
      sr_out way =
          to (codes "sr") (numbered (codes "r_") c) 1 (in_side _ (outward_side x.dir _ way (inr (inl refl))))
          (rep.has_sr (length a.channels) c x way) top_r

      pop_out : v (x_q ∷ codes "pop" ∷ []) ≡ v (numbered (codes "pop_") c ∷ [])
      pop_out =
          to (codes "pop") (numbered (codes "pop_") c) 1 (behind_done _ (has_right sides pop_conns _ (inl refl)))
          (rep.has_pop (length a.channels) c x) top_pop

      pop_by : (dir : Dir) → x.dir ≡ dir → (valid ready : Bool) → v (numbered (codes "v_") c ∷ []) ≡ truth valid
          → v (numbered (codes "r_") c ∷ []) ≡ truth ready → v (numbered (codes "pop_") c ∷ []) ≡ truth (valid && ready)
      pop_by Inward way valid ready e g =
          sym pop_out ∙ rep.pop_inward (length a.channels) c x st way valid ready (kv_out way ∙ e) (kr_in way ∙ g)
      pop_by Outward way valid ready e g =
          sym pop_out ∙ rep.pop_outward (length a.channels) c x st way valid ready (sv_in way ∙ e) (sr_out way ∙ g)

      pub pop_is : (valid ready : Bool) → v (numbered (codes "v_") c ∷ []) ≡ truth valid → v (numbered (codes "r_") c ∷ []) ≡ truth ready
          → v (numbered (codes "pop_") c ∷ []) ≡ truth (valid && ready)
      pop_is valid ready e g = pop_by x.dir refl valid ready e g

      -- ---- what is offered
      pub content_is : x.dir ≡ Inward → (i n : ℕ) (up : Bool) → slice_get x.widths i ≡ Some n → v (numbered (codes "v_") c ∷ []) ≡ truth up
          → v (numbered_twice (codes "k_") c i ∷ []) ≡ (if up then v (numbered_twice (codes "s_") c i ∷ []) else 0)
      content_is way i n up e is_up =
          let is = content_width w c x at i n e in
          sym (to (numbered (codes "k") i) (numbered_twice (codes "k_") c i) n
          (in_side _ (inward_side x.dir _ way (has_right in_sources in_sinks _
          (inr (inr (has_each (λ i w. conn (numbered (codes "k") i) (numbered_twice (codes "k_") c i)) 0 x.widths i n i (omega arith) e))))))
          (rep.has_sink (length a.channels) c x way i n is e) (top_k way i n e))
          ∙ rep.shown (length a.channels) c x st way i n up is e (kv_out way ∙ is_up)
          ∙ ap (λ y. if up then y else 0)
          (to (numbered (codes "s") i) (numbered_twice (codes "s_") c i) n
          (in_side _ (inward_side x.dir _ way (has_left in_sources in_sinks _
          (has_each (λ i w. conn (numbered (codes "s") i) (numbered_twice (codes "s_") c i)) 0 x.widths i n i (omega arith) e))))
          (rep.has_source (length a.channels) c x way i n is e) (top_s way i n e))

      module _ (have : ℕ → ℕ) (few : (j : ℕ) → j < length a.channels → have j < 2 ^ 32)
          (was : (j : ℕ) → j < length a.channels → s.nets (counter_name c j) ≡ have j) (more : Bool)
          (is_more : v (numbered (codes "more_") c ∷ []) ≡ truth more) where
        -- whether the counters cover what is waited for
        abbrev pub up : Bool
        up = reached have (λ j. v (x_q ∷ numbered (codes "n") j ∷ [])) 0 (length a.channels) more

        pub valid_is : x.dir ≡ Inward → v (numbered (codes "v_") c ∷ []) ≡ truth up
        valid_is way = sym (kv_out way) ∙ rep.valid_up (length a.channels) c x st have few was more way (more_in ∙ is_more)

        pub ready_is : x.dir ≡ Outward → v (numbered (codes "r_") c ∷ []) ≡ truth up
        ready_is way = sym (sr_out way) ∙ rep.ready_up (length a.channels) c x st have few was more way (more_in ∙ is_more)

      -- ---- after the clock
      pub counter_is : (have : ℕ → ℕ) → (few : (j : ℕ) → j < length a.channels → have j < 2 ^ 32)
          → (was : (j : ℕ) → j < length a.channels → s.nets (counter_name c j) ≡ have j)
          → (ends : ℕ → Bool) → ((j : ℕ) → j < length a.channels → v (numbered (codes "pop_") j ∷ []) ≡ truth (ends j))
          → ((j : ℕ) → j < length a.channels → HasNet (replay_top a m.ports) (numbered (codes "pop_") j) 1)
          → length a.channels < 2 ^ 64 → ((j : ℕ) → j < length a.channels → have j + 1 < 2 ^ 32)
          → (after : State) → IsNext (files.more_of f a) (replay_top a m.ports) s v after
          → (j : ℕ) → j < length a.channels → after.nets (counter_name c j) ≡ have j + truth (ends j)
      counter_is have few was ends pops has_pops room most after goes j l =
          rep.counter_next (length a.channels) c x st have few was ends
          (λ j l.
          to (numbered (codes "d") j) (numbered (codes "pop_") j) 1
          (inr (inr (has_right need_conns (done_conns ++ (sides ++ pop_conns)) _ (has_left done_conns (sides ++ pop_conns) _
          (has_upto (λ j. conn (numbered (codes "d") j) (numbered (codes "pop_") j)) 0 count j j (omega arith) l)))))
          (rep.has_done (length a.channels) c x j l) (has_pops j l)
          ∙ pops j l)
          room most after goes j l

  -- each channel's completion
  pub all_pops : (j : ℕ) → j < length a.channels → HasNet (replay_top a m.ports) (numbered (codes "pop_") j) 1
  all_pops j l = (let x = channel-at a.channels j l in top_pop j x.0 x.1)
