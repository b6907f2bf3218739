-- A channel of the top that records: what it shows, what it lets pass to the design, and its flight after the clock.
use Rattle.std.proofs.Common.{◌≡◌, ℕ, zero, suc, ◌==◌, Bool, ◌&&◌, not, if◌then◌else◌, List, [], ◌∷◌}
use Rattle.std.proofs.Common.{Some, refl, sym, ap, ◌∙◌, subst, arith, inl, inr, slice_get}
use Rattle.std.specs.Prelude.{codes}
use Rattle.std.specs.List.{AllByRecursion, AllZip}
use Rattle.net_order.specs.vidi_bits.Number.{IsWidth, truth}
use Rattle.net_order.proofs.vidi_bits_lemmas.Each.{each_append}
use Rattle.vlog_tree.specs.Tree.{PortOf, ConnOf, ItemOf, ModuleOf, FileOf}
use Rattle.net_design.specs.declared.design.Design.{Design}
use Rattle.net_design.specs.declared.design.Direction.{Direction}
use Rattle.flat_parts.specs.vlog_driver.Names.{Full, State}
use Rattle.flat_parts.specs.vlog_driver.Next.{IsNext}
use Rattle.flat_parts.specs.vlog_driver.Settled.{IsSettled}
use Rattle.chan_replayer.specs.trace_model.declared.channel.Channel.{Channel}
use Rattle.chan_replayer.specs.trace_model.declared.channel.Dir.{Dir}
use Rattle.chan_replayer.specs.trace_model.declared.channel.Dir.TheVariants.{Inward, Outward}
use Rattle.chan_replayer.specs.chan_map.declared.pins.Map.{Map}
use Rattle.chan_replayer.specs.chan_map.declared.pins.Pin.{Pin}
use Rattle.chan_replayer.specs.chan_map.Bound.{IsPin}
use Rattle.chan_replayer.proofs.run_model_lemmas.RowParts.{has-plug}
use Rattle.shim_trees.specs.Pieces.{Name, numbered, numbered_twice, each, each_some, input, output, port, source_side, sink_side, wire, conn}
use Rattle.shim_trees.specs.Links.{record_links, dut, content_wires, tied_ports}
use Rattle.shim_trees.specs.Monitor.{monitor}
use Rattle.shim_trees.specs.RecordTop.{record_ports, record_wires, source_conns, sink_conns, source_content, sink_content, monitor_conns}
use Rattle.shim_trees.specs.RecordTop.{monitor_item, record_top, source_ready, sink_valid}
use Rattle.shim_step.specs.Plain.{IsPlain, IsPlainItem}
use Rattle.shim_step.proofs.Elements.{Has, has_left, has_right, has_contains}
use Rattle.shim_step.specs.Wrapped.{IsWrapped, fly_name}
use Rattle.shim_step.proofs.Lists.{has_each, all_each, has_some, all_some}
use Rattle.shim_step.proofs.Files as files
use Rattle.shim_step.proofs.Stand.{HasNet, port_has, wire_has, one_bit, Stand, inside, joined, bit_is, at_top}
use Rattle.shim_step.proofs.Monitor as mon
use Rattle.shim_step.proofs.Round.{IsRound, pin_width, own_apart}

-- ---- the top
pub wires_plain : (n : ℕ) (dir : Dir) (ws : List ℕ) → AllByRecursion IsPlainItem (content_wires n dir ws)
wires_plain n Inward ws = all_each IsPlainItem (λ i w. wire (numbered_twice (codes "k_") n i) w) (λ i w. tt) 0 ws
wires_plain n Outward ws = tt

pub zip_width : (d : Design) (side : Direction) (is : (w : ℕ) (pin : Pin) → IsPin d side w pin → IsWidth w) (ws : List ℕ) (ps : List Pin)
    → AllZip (λ w pin. IsPin d side w pin) ws ps → (i w : ℕ) → slice_get ws i ≡ Some w → IsWidth w
zip_width d side is [] ps z i w e = absurd (cc)
zip_width d side is (x ∷ ws) [] z i w e = absurd z
zip_width d side is (x ∷ ws) (p ∷ ps) z zero w e = (let same : x ≡ w = cc in subst IsWidth same (is x p z.0))
zip_width d side is (x ∷ ws) (p ∷ ps) z (suc i) w e = zip_width d side is ws ps z.1 i w e

module _ {f : FileOf ℕ} {a : Map} {m : ModuleOf ℕ} {d : Design} (w : IsWrapped f a m d) where
  abbrev T : ModuleOf ℕ
  T = record_top a m.ports

  abbrev wires : List (ItemOf ℕ)
  wires = each_some record_wires 0 a.channels

  abbrev behind_wires : List (ItemOf ℕ)
  behind_wires = dut (record_links a) a.top m.ports ∷ each monitor_item 0 a.channels

  top_items : AllByRecursion IsPlainItem (record_top a m.ports).items
  top_items =
      each_append IsPlainItem wires behind_wires
      (all_some IsPlainItem record_wires (λ n c. (tt, wires_plain n c.dir c.widths)) 0 a.channels)
      (tt, all_each IsPlainItem monitor_item (λ n c. tt) 0 a.channels)

  pub top_plain : IsPlain (record_top a m.ports)
  top_plain = record { bare = refl; items = top_items; differ = files.differ w T (files.record_there w) }

  pub round : IsRound f a m (codes "w_") (codes "w_") (record_top a m.ports)
  round = record {
    dut = record {
      plain = top_plain;
      stands = subst (λ k. Has (record_top a m.ports).items (dut (record_links a) k m.ports)) (sym (files.named w))
          (has_right wires behind_wires (dut (record_links a) a.top m.ports) (inl refl));
      design = has_contains (files.more_of f a) m (files.design_there w);
      own = own_apart w;
      once = files.once w m (files.design_there w);
    };
    clock = inl refl;
    tied = λ p h. inr (has_left (tied_ports a m.ports) (each_some record_ports 0 a.channels) p h);
  }

  -- the widths of a channel's contents
  pub content_width : (c : ℕ) (x : Channel) → slice_get a.channels c ≡ Some x → (i n : ℕ) → slice_get x.widths i ≡ Some n → IsWidth n
  content_width c x at i n e =
      let p = has-plug d a w.mapped c x at in
      zip_width d _ (λ n pin is. pin_width w _ n pin is) x.widths p.plug.contents p.is.contents i n e

  -- ---- a channel
  module _ (c : ℕ) (x : Channel) (at : slice_get a.channels c ≡ Some x) where
    channel_port : (p : PortOf ℕ) → Has (record_ports c x) p → Has T.ports p
    channel_port p h =
        inr (has_right (tied_ports a m.ports) (each_some record_ports 0 a.channels) p
        (has_some record_ports 0 a.channels c x c p (omega arith) at h))

    abbrev contents : List (PortOf ℕ)
    contents = each (λ i w. port (source_side x.dir) (numbered_twice (codes "d_") c i) w) 0 x.widths

    abbrev ends : List (PortOf ℕ)
    ends = output (numbered (codes "start_") c) 1 ∷ output (numbered (codes "stop_") c) 1 ∷ []

    pub top_g : HasNet (record_top a m.ports) (numbered (codes "g_") c) 1
    top_g = port_has T _ (numbered (codes "g_") c) 1 one_bit (channel_port (input (numbered (codes "g_") c) 1) (inl refl))

    pub top_v : HasNet (record_top a m.ports) (numbered (codes "v_") c) 1
    top_v = port_has T (source_side x.dir) (numbered (codes "v_") c) 1 one_bit (channel_port _ (inr (inl refl)))

    pub top_r : HasNet (record_top a m.ports) (numbered (codes "r_") c) 1
    top_r = port_has T (sink_side x.dir) (numbered (codes "r_") c) 1 one_bit (channel_port _ (inr (inr (inl refl))))

    pub top_start : HasNet (record_top a m.ports) (numbered (codes "start_") c) 1
    top_start =
        port_has T _ (numbered (codes "start_") c) 1 one_bit
        (channel_port (output (numbered (codes "start_") c) 1) (inr (inr (inr (has_right contents ends _ (inl refl))))))

    pub top_stop : HasNet (record_top a m.ports) (numbered (codes "stop_") c) 1
    top_stop =
        port_has T _ (numbered (codes "stop_") c) 1 one_bit
        (channel_port (output (numbered (codes "stop_") c) 1) (inr (inr (inr (has_right contents ends _ (inr (inl refl)))))))

    pub top_d : (i n : ℕ) → slice_get x.widths i ≡ Some n → HasNet (record_top a m.ports) (numbered_twice (codes "d_") c i) n
    top_d i n e =
        port_has T (source_side x.dir) (numbered_twice (codes "d_") c i) n (content_width c x at i n e)
        (channel_port _ (inr (inr (inr (has_left contents ends _
        (has_each (λ i w. port (source_side x.dir) (numbered_twice (codes "d_") c i) w) 0 x.widths i n i (omega arith) e))))))

    channel_wire : (i : ItemOf ℕ) → Has (record_wires c x) i → Has T.items i
    channel_wire i h = has_left wires behind_wires i (has_some record_wires 0 a.channels c x c i (omega arith) at h)

    pub top_w : HasNet (record_top a m.ports) (numbered (codes "w_") c) 1
    top_w = wire_has T (numbered (codes "w_") c) 1 one_bit (channel_wire _ (inl refl))

    inward_wires : (dir : Dir) (i n : ℕ) → dir ≡ Inward → slice_get x.widths i ≡ Some n
        → Has (content_wires c dir x.widths) (wire (numbered_twice (codes "k_") c i) n)
    inward_wires Inward i n way e = has_each (λ i w. wire (numbered_twice (codes "k_") c i) w) 0 x.widths i n i (omega arith) e
    inward_wires Outward i n way e = absurd (cc)

    pub top_k : x.dir ≡ Inward → (i n : ℕ) → slice_get x.widths i ≡ Some n → HasNet (record_top a m.ports) (numbered_twice (codes "k_") c i) n
    top_k way i n e =
        wire_has T (numbered_twice (codes "k_") c i) n (content_width c x at i n e) (channel_wire _ (inr (inward_wires x.dir i n way e)))

    -- ---- its monitor
    abbrev M : ModuleOf ℕ
    M = monitor c x.widths

    own : IsPlain (monitor c x.widths)
    own = mon.monitor_plain c x.widths (files.differ w M (files.monitor_there w c x at))

    abbrev conns : List (ConnOf ℕ)
    conns = monitor_conns c x.dir x.widths

    pub monitor_stands : Has (record_top a m.ports).items (monitor_item c x)
    monitor_stands = has_right wires behind_wires (monitor_item c x) (inr (has_each monitor_item 0 a.channels c x c (omega arith) at))

    in_source : (k : ConnOf ℕ) → Has (source_conns c x.dir x.widths) k → Has conns k
    in_source k h = has_left (source_conns c x.dir x.widths) (sink_conns c x.dir x.widths) k h

    in_sink : (k : ConnOf ℕ) → Has (sink_conns c x.dir x.widths) k → Has conns k
    in_sink k h = has_right (source_conns c x.dir x.widths) (sink_conns c x.dir x.widths) k h

    abbrev last_conns : List (ConnOf ℕ)
    last_conns = conn (codes "start") (numbered (codes "start_") c) ∷ conn (codes "stop") (numbered (codes "stop_") c) ∷ []

    in_last : (k : ConnOf ℕ) → Has last_conns k → Has conns k
    in_last k h = in_sink k (inr (inr (has_right (each (sink_content c x.dir) 0 x.widths) last_conns k h)))

    passed_in : (dir : Dir) → dir ≡ Inward → sink_valid c dir ≡ conn (codes "kv") (numbered (codes "w_") c)
    passed_in Inward way = refl
    passed_in Outward way = absurd (cc)

    passed_out : (dir : Dir) → dir ≡ Outward → source_ready c dir ≡ conn (codes "sr") (numbered (codes "w_") c)
    passed_out Outward way = refl
    passed_out Inward way = absurd (cc)

    content_in : (dir : Dir) (i n : ℕ) → dir ≡ Inward → sink_content c dir i n ≡ conn (numbered (codes "k") i) (numbered_twice (codes "k_") c i)
    content_in Inward i n way = refl
    content_in Outward i n way = absurd (cc)

    module _ {s : State} {pins : List ℕ} {v : Full → ℕ} (settled : IsSettled (files.more_of f a) (record_top a m.ports) s pins v) where
      abbrev x_m : Name
      x_m = numbered (codes "m_") c

      pub st : Stand (files.more_of f a) (record_top a m.ports) s pins v (numbered (codes "m_") c ∷ []) (monitor c x.widths)
      st = inside settled top_plain (numbered (codes "vidi_m_") c) x_m conns monitor_stands M
          (has_contains (files.more_of f a) M (files.monitor_there w c x at)) refl own

      to : (inner outer : Name) (n : ℕ) → Has conns (conn inner outer) → HasNet (monitor c x.widths) inner n → HasNet (record_top a m.ports) outer n
          → v (x_m ∷ inner ∷ []) ≡ v (outer ∷ [])
      to inner outer n h i o =
          joined settled top_plain (numbered (codes "vidi_m_") c) x_m conns monitor_stands M
          (has_contains (files.more_of f a) M (files.monitor_there w c x at)) refl own inner outer n h i o

      pub valid_bit : v (numbered (codes "v_") c ∷ []) ≡ truth (v (numbered (codes "v_") c ∷ []) == 1)
      valid_bit = bit_is (at_top settled top_plain) (numbered (codes "v_") c) top_v

      pub ready_bit : v (numbered (codes "r_") c ∷ []) ≡ truth (v (numbered (codes "r_") c ∷ []) == 1)
      ready_bit = bit_is (at_top settled top_plain) (numbered (codes "r_") c) top_r

      -- with this gate, valid and ready on the ports
      module _ (gate valid ready : Bool) (is_gate : v (numbered (codes "g_") c ∷ []) ≡ truth gate)
          (is_valid : v (numbered (codes "v_") c ∷ []) ≡ truth valid) (is_ready : v (numbered (codes "r_") c ∷ []) ≡ truth ready) where
        kr : v (x_m ∷ codes "kr" ∷ []) ≡ truth ready
        kr = to (codes "kr") (numbered (codes "r_") c) 1 (in_sink _ (inr (inl refl))) (mon.has_kr c x.widths) top_r ∙ is_ready

        g : v (x_m ∷ codes "g" ∷ []) ≡ truth gate
        g = to (codes "g") (numbered (codes "g_") c) 1 (in_source _ (inr (inl refl))) (mon.has_g c x.widths) top_g ∙ is_gate

        kv : v (x_m ∷ codes "kv" ∷ []) ≡ truth (valid && gate)
        kv =
            mon.gated_valid c x.widths st valid gate
            (to (codes "sv") (numbered (codes "v_") c) 1 (in_source _ (inr (inr (inl refl)))) (mon.has_sv c x.widths) top_v ∙ is_valid) g

        -- an inward channel's valid and contents, as they pass the gate
        pub passed_valid : x.dir ≡ Inward → v (numbered (codes "w_") c ∷ []) ≡ truth (valid && gate)
        passed_valid way =
            sym (to (codes "kv") (numbered (codes "w_") c) 1
            (in_sink _ (inl (passed_in x.dir way))) (mon.has_kv c x.widths) top_w) ∙ kv

        pub passed_content : x.dir ≡ Inward → (i n : ℕ) → slice_get x.widths i ≡ Some n
            → v (numbered_twice (codes "k_") c i ∷ []) ≡ (if valid && gate then v (numbered_twice (codes "d_") c i ∷ []) else 0)
        passed_content way i n e =
            let is = content_width c x at i n e in
            sym (to (numbered (codes "k") i) (numbered_twice (codes "k_") c i) n
            (in_sink _ (inr (inr (has_left (each (sink_content c x.dir) 0 x.widths) last_conns _
            (subst (Has (each (sink_content c x.dir) 0 x.widths)) (content_in x.dir i n way)
            (has_each (sink_content c x.dir) 0 x.widths i n i (omega arith) e))))))
            (mon.has_sink c x.widths i n is e) (top_k way i n e))
            ∙ mon.shown c x.widths st i n (valid && gate) is e kv
            ∙ ap (λ y. if valid && gate then y else 0)
            (to (numbered (codes "s") i) (numbered_twice (codes "d_") c i) n
            (in_source _ (inr (inr (inr (inr (has_each (source_content c) 0 x.widths i n i (omega arith) e))))))
            (mon.has_source c x.widths i n is e) (top_d i n e))

        -- an outward channel's ready
        pub passed_ready : x.dir ≡ Outward → v (numbered (codes "w_") c ∷ []) ≡ truth (ready && gate)
        passed_ready way =
            sym (to (codes "sr") (numbered (codes "w_") c) 1 (in_source _ (inr (inr (inr (inl (passed_out x.dir way))))))
            (mon.has_sr c x.widths) top_w)
            ∙ mon.gated_ready c x.widths st ready gate kr g

        module _ (fly : Bool) (was : s.nets (fly_name c) ≡ truth fly) where
          pub start_is : v (numbered (codes "start_") c ∷ []) ≡ truth ((valid && gate) && not fly)
          start_is =
              sym (to (codes "start") (numbered (codes "start_") c) 1 (in_last _ (inl refl)) (mon.has_start c x.widths) top_start)
              ∙ mon.starts c x.widths st (valid && gate) fly kv (mon.flight_held c x.widths st fly was)

          pub stop_is : v (numbered (codes "stop_") c ∷ []) ≡ truth ((valid && gate) && ready)
          stop_is =
              sym (to (codes "stop") (numbered (codes "stop_") c) 1 (in_last _ (inr (inl refl))) (mon.has_stop c x.widths) top_stop)
              ∙ mon.stops c x.widths st (valid && gate) ready kv kr

          pub flight_is : (after : State) → IsNext (files.more_of f a) (record_top a m.ports) s v after
              → after.nets (fly_name c) ≡ truth ((valid && gate) && not ready)
          flight_is after goes = mon.flight_next c x.widths st after goes (valid && gate) ready fly kv kr was
