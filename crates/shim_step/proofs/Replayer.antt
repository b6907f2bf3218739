-- The replayer of a channel in a settled map, and its counters in the next state.
use Rattle.std.proofs.Common.{◌≡◌, ◌≢◌, ℕ, ◌+◌, ◌%◌, ◌<◌, ◌^◌, Bool, true, false, ◌&&◌, if◌then◌else◌}
use Rattle.std.proofs.Common.{List, [], ◌∷◌, ◌++◌, Some, refl, sym, ap, ◌∙◌, subst, arith, inl, inr, slice_get, append-nil}
use Rattle.std.specs.Prelude.{codes, max}
use Rattle.std.specs.Fmt.{decimal}
use Rattle.std.specs.List.{AllByRecursion, position_or_len}
use Rattle.std.specs.Str.{bytes_eq}
use Rattle.shim_trees.specs.vlog_size.Literal.{digits_from}
use Rattle.std.proofs.Math.Nat.{mod-eq_of_lt}
use Rattle.net_order.specs.vidi_bits.Number.{IsWidth, truth, put_of}
use Rattle.net_order.proofs.vidi_bits_lemmas.Each.{each_append}
use Rattle.vlog_tree.specs.Tree.{PortOf, ItemOf, ModuleOf, ExprOf, BeginStmt}
use Rattle.shim_trees.specs.vlog_size.declared.scope.ScopeNet.{ScopeNet}
use Rattle.shim_trees.specs.vlog_size.Table.{Named, place_of}
use Rattle.flat_parts.specs.vlog_names.declared.declaration.Shape.TheVariants.{Vector}
use Rattle.flat_parts.specs.vlog_names.Entries.{declared}
use Rattle.flat_parts.specs.vlog_names.Ports.{has_reg}
use Rattle.flat_parts.specs.vlog_names.Different.{Differ}
use Rattle.net_design.specs.declared.act.Timing.TheVariants.{Nonblocking}
use Rattle.flat_parts.specs.vlog_block.Value.{width_of}
use Rattle.flat_parts.specs.vlog_block.Updates.{stmts_updates}
use Rattle.flat_parts.specs.vlog_driver.Names.{Full, State}
use Rattle.flat_parts.specs.vlog_driver.Next.{IsNext, clocked_updates}
use Rattle.chan_replayer.specs.trace_model.declared.channel.Channel.{Channel}
use Rattle.chan_replayer.specs.trace_model.declared.channel.Dir.{Dir}
use Rattle.chan_replayer.specs.trace_model.declared.channel.Dir.TheVariants.{Inward, Outward}
use Rattle.shim_trees.specs.Pieces.{Name, ident, net, both, each, upto, numbered, input, output, reg, assign, at_clock, gated_content}
use Rattle.shim_trees.specs.Replayer.{side_ports, covering, counting, shown_items, replayer}
use Rattle.shim_step.specs.Plain.{IsPlain, IsPlainItem, IsClockedItem, nets_of}
use Rattle.shim_step.specs.Nets.{IsNet}
use Rattle.shim_step.proofs.Elements.{Has, Found, has_left, has_right, apart_from, place_some}
use Rattle.shim_step.proofs.Declared.{reg_found}
use Rattle.shim_step.proofs.Scopes.{bare}
use Rattle.shim_step.proofs.Standing as standing
use Rattle.shim_step.proofs.Whole.{assigned}
use Rattle.shim_step.proofs.Lists.{has_each, all_each, has_upto, all_upto}
use Rattle.shim_step.proofs.Bits.{number_here}
use Rattle.shim_step.proofs.Texts.{decimal_spells}
use Rattle.shim_step.proofs.Stand.{HasNet, port_has, reg_has, one_bit, Stand, R, V, is_net, is_bit, is_number, holds, and_item, content_item}
use Rattle.shim_step.proofs.Clocked.{IsStill, stills_first, S, place_there, old_at, next_at}
use Rattle.shim_step.proofs.Counting as counter

-- a counter's width
pub word : IsWidth 32
word = (omega arith, omega arith)

-- numbers are told from their decimal texts
same_digits : (i j : ℕ) → i < 2 ^ 64 → j < 2 ^ 64 → decimal i ≡ decimal j → i ≡ j
same_digits i j a b e =
    sym (decimal_spells i a).value ∙ ap (λ ds. digits_from 10 0 ds) e ∙ (decimal_spells j b).value

one_low : (b : Bool) → truth b % 2 ^ 1 ≡ truth b
one_low true = refl
one_low false = refl

module _ (count n : ℕ) (x : Channel) where
  abbrev M : ModuleOf ℕ
  M = replayer count n x

  abbrev regs : List (ItemOf ℕ)
  regs = upto (λ j. reg (numbered (codes "c") j) 32) 0 count

  abbrev last : List (ItemOf ℕ)
  last = at_clock (BeginStmt (counting 0 count)) ∷ []

  shown_plain : (dir : Dir) (ws : List ℕ) → AllByRecursion IsPlainItem (shown_items count dir ws)
  shown_plain Inward ws = (tt, each_append IsPlainItem (each gated_content 0 ws) _ (all_each IsPlainItem gated_content (λ i w. tt) 0 ws) (tt, tt))
  shown_plain Outward ws = (tt, (tt, tt))

  shown_clocked : (dir : Dir) (ws : List ℕ) → AllByRecursion IsClockedItem (shown_items count dir ws)
  shown_clocked Inward ws =
      (tt, each_append IsClockedItem (each gated_content 0 ws) _ (all_each IsClockedItem gated_content (λ i w. tt) 0 ws) (tt, tt))
  shown_clocked Outward ws = (tt, (tt, tt))

  shown_still : (dir : Dir) (ws : List ℕ) → AllByRecursion IsStill (shown_items count dir ws)
  shown_still Inward ws = (tt, each_append IsStill (each gated_content 0 ws) _ (all_each IsStill gated_content (λ i w. tt) 0 ws) (tt, tt))
  shown_still Outward ws = (tt, (tt, tt))

  plain_items : AllByRecursion IsPlainItem (replayer count n x).items
  plain_items =
      each_append IsPlainItem regs (shown_items count x.dir x.widths ++ last) (all_upto IsPlainItem _ (λ j. (tt, tt)) 0 count)
      (each_append IsPlainItem (shown_items count x.dir x.widths) last (shown_plain x.dir x.widths) (tt, tt))

  clocked_items : AllByRecursion IsClockedItem (replayer count n x).items
  clocked_items =
      each_append IsClockedItem regs (shown_items count x.dir x.widths ++ last) (all_upto IsClockedItem _ (λ j. tt) 0 count)
      (each_append IsClockedItem (shown_items count x.dir x.widths) last (shown_clocked x.dir x.widths) (tt, tt))

  pub replayer_plain : Differ (declared (replayer count n x)) → IsPlain (replayer count n x)
  replayer_plain differ = record { bare = refl; items = plain_items; differ = differ }

  -- ---- its nets
  abbrev needs : List (PortOf ℕ)
  needs = upto (λ j. input (numbered (codes "n") j) 32) 0 count

  abbrev dones : List (PortOf ℕ)
  dones = upto (λ j. input (numbered (codes "d") j) 1) 0 count

  abbrev sides : List (PortOf ℕ)
  sides = side_ports x.dir x.widths

  abbrev pops : List (PortOf ℕ)
  pops = output (codes "pop") 1 ∷ []

  behind_needs : (p : PortOf ℕ) → Has (dones ++ (sides ++ pops)) p → Has (replayer count n x).ports p
  behind_needs p h = inr (inr (has_right needs (dones ++ (sides ++ pops)) p h))

  behind_dones : (p : PortOf ℕ) → Has (sides ++ pops) p → Has (replayer count n x).ports p
  behind_dones p h = behind_needs p (has_right dones (sides ++ pops) p h)

  side_port : (p : PortOf ℕ) → Has sides p → Has (replayer count n x).ports p
  side_port p h = behind_dones p (has_left sides pops p h)

  pub has_more : HasNet (replayer count n x) (codes "more") 1
  has_more = port_has M _ (codes "more") 1 one_bit (inr (inl refl))

  pub has_need : (j : ℕ) → j < count → HasNet (replayer count n x) (numbered (codes "n") j) 32
  has_need j l =
      port_has M _ (numbered (codes "n") j) 32 word
      (inr (inr (has_left needs (dones ++ (sides ++ pops)) (input (numbered (codes "n") j) 32)
      (has_upto (λ j. input (numbered (codes "n") j) 32) 0 count j j (omega arith) l))))

  pub has_done : (j : ℕ) → j < count → HasNet (replayer count n x) (numbered (codes "d") j) 1
  has_done j l =
      port_has M _ (numbered (codes "d") j) 1 one_bit
      (behind_needs (input (numbered (codes "d") j) 1) (has_left dones (sides ++ pops) _
      (has_upto (λ j. input (numbered (codes "d") j) 1) 0 count j j (omega arith) l)))

  pub has_pop : HasNet (replayer count n x) (codes "pop") 1
  has_pop = port_has M _ (codes "pop") 1 one_bit (behind_dones (output (codes "pop") 1) (has_right sides pops _ (inl refl)))

  pub has_counter : (j : ℕ) → j < count → HasNet (replayer count n x) (numbered (codes "c") j) 32
  has_counter j l =
      reg_has M (numbered (codes "c") j) 32 word
      (has_left regs (shown_items count x.dir x.widths ++ last) _ (has_upto (λ j. reg (numbered (codes "c") j) 32) 0 count j j (omega arith) l))

  abbrev sources : List ℕ → List (PortOf ℕ)
  sources ws = each (λ i w. input (numbered (codes "s") i) w) 0 ws

  abbrev sinks : List ℕ → List (PortOf ℕ)
  sinks ws = each (λ i w. output (numbered (codes "k") i) w) 0 ws

  inward_side : (dir : Dir) (ws : List ℕ) (p : PortOf ℕ) → dir ≡ Inward
      → Has (sources ws ++ output (codes "kv") 1 ∷ input (codes "kr") 1 ∷ sinks ws) p → Has (side_ports dir ws) p
  inward_side Inward ws p way h = h
  inward_side Outward ws p way h = absurd (cc)

  outward_side : (dir : Dir) (ws : List ℕ) (p : PortOf ℕ) → dir ≡ Outward → Has (input (codes "sv") 1 ∷ output (codes "sr") 1 ∷ []) p
      → Has (side_ports dir ws) p
  outward_side Outward ws p way h = h
  outward_side Inward ws p way h = absurd (cc)

  module _ (way : x.dir ≡ Inward) where
    in_side : (p : PortOf ℕ) → Has (sources x.widths ++ output (codes "kv") 1 ∷ input (codes "kr") 1 ∷ sinks x.widths) p
        → Has (replayer count n x).ports p
    in_side p h = side_port p (inward_side x.dir x.widths p way h)

    behind_sources : (p : PortOf ℕ) → Has (output (codes "kv") 1 ∷ input (codes "kr") 1 ∷ sinks x.widths) p → Has (replayer count n x).ports p
    behind_sources p h = in_side p (has_right (sources x.widths) (output (codes "kv") 1 ∷ input (codes "kr") 1 ∷ sinks x.widths) p h)

    pub has_kv : HasNet (replayer count n x) (codes "kv") 1
    has_kv = port_has M _ (codes "kv") 1 one_bit (behind_sources (output (codes "kv") 1) (inl refl))

    pub has_kr : HasNet (replayer count n x) (codes "kr") 1
    has_kr = port_has M _ (codes "kr") 1 one_bit (behind_sources (input (codes "kr") 1) (inr (inl refl)))

    pub has_source : (i w : ℕ) → IsWidth w → slice_get x.widths i ≡ Some w → HasNet (replayer count n x) (numbered (codes "s") i) w
    has_source i w is e =
        port_has M _ (numbered (codes "s") i) w is
        (in_side (input (numbered (codes "s") i) w)
        (has_left (sources x.widths) (output (codes "kv") 1 ∷ input (codes "kr") 1 ∷ sinks x.widths) _
        (has_each (λ i w. input (numbered (codes "s") i) w) 0 x.widths i w i (omega arith) e)))

    pub has_sink : (i w : ℕ) → IsWidth w → slice_get x.widths i ≡ Some w → HasNet (replayer count n x) (numbered (codes "k") i) w
    has_sink i w is e =
        port_has M _ (numbered (codes "k") i) w is
        (behind_sources (output (numbered (codes "k") i) w)
        (inr (inr (has_each (λ i w. output (numbered (codes "k") i) w) 0 x.widths i w i (omega arith) e))))

  module _ (way : x.dir ≡ Outward) where
    pub has_sv : HasNet (replayer count n x) (codes "sv") 1
    has_sv = port_has M _ (codes "sv") 1 one_bit (side_port (input (codes "sv") 1) (outward_side x.dir x.widths _ way (inl refl)))

    pub has_sr : HasNet (replayer count n x) (codes "sr") 1
    has_sr = port_has M _ (codes "sr") 1 one_bit (side_port (output (codes "sr") 1) (outward_side x.dir x.widths _ way (inr (inl refl))))

  -- ---- its items
  shown_item : (i : ItemOf ℕ) → Has (shown_items count x.dir x.widths) i → Has (replayer count n x).items i
  shown_item i h =
      has_right regs (shown_items count x.dir x.widths ++ last) i (has_left (shown_items count x.dir x.widths) last i h)

  abbrev inward_items : List (ItemOf ℕ)
  inward_items =
      assign (codes "kv") (covering 0 count (net (codes "more")))
      ∷ (each gated_content 0 x.widths ++ assign (codes "pop") (both (net (codes "kv")) (net (codes "kr"))) ∷ [])

  abbrev outward_items : List (ItemOf ℕ)
  outward_items =
      assign (codes "sr") (covering 0 count (net (codes "more"))) ∷ assign (codes "pop") (both (net (codes "sv")) (net (codes "sr"))) ∷ []

  inward_item : (i : ItemOf ℕ) → x.dir ≡ Inward → Has inward_items i → Has (replayer count n x).items i
  inward_item i way h = shown_item i (subst (λ dir. Has (shown_items count dir x.widths) i) (sym way) h)

  outward_item : (i : ItemOf ℕ) → x.dir ≡ Outward → Has outward_items i → Has (replayer count n x).items i
  outward_item i way h = shown_item i (subst (λ dir. Has (shown_items count dir x.widths) i) (sym way) h)

  module _ {file : List (ModuleOf ℕ)} {top : ModuleOf ℕ} {s : State} {pins : List ℕ} {v : Full → ℕ} {path : Full}
      (st : Stand file top s pins v path (replayer count n x)) where
    abbrev N : Name → ℕ
    N y = v (path ++ y ∷ [])

    -- ---- the counters are what the state holds
    module _ (have : ℕ → ℕ) (few : (j : ℕ) → j < count → have j < 2 ^ 32)
        (was : (j : ℕ) → j < count → s.nets (path ++ numbered (codes "c") j ∷ []) ≡ have j) where
      counter_reg : (j : ℕ) → j < count → has_reg (replayer count n x) (numbered (codes "c") j) ≡ true
      counter_reg j l =
          reg_found M refl (apart_from (declared M) st.plain.differ) (reg (numbered (codes "c") j) 32) (numbered (codes "c") j) Vector
          (has_left regs (shown_items count x.dir x.widths ++ last) _
          (has_upto (λ j. reg (numbered (codes "c") j) 32) 0 count j j (omega arith) l)) (inl refl)

      pub counter_held : (j : ℕ) → j < count → N (numbered (codes "c") j) ≡ have j
      counter_held j l =
          standing.held file top s pins v st.settled path M st.plain st.at clocked_items
          (record { name = numbered (codes "c") j; value = record { width = 32 } }) (has_counter j l).0 (counter_reg j l)
          ∙ ap (λ z. z % 2 ^ 32) (was j l) ∙ mod-eq_of_lt (few j l)

      is_counter : (j : ℕ) → j < count → IsNet (R st) (V st) (numbered (codes "c") j) 32 (have j)
      is_counter j l = is_number st (numbered (codes "c") j) 32 (have j) (has_counter j l) (counter_held j l)

      abbrev need : ℕ → ℕ
      need j = N (numbered (codes "n") j)

      abbrev up : Bool → Bool
      up more = counter.reached have need 0 count more

      -- the chain that is assigned to a net of one bit
      chained : (y : Name) (more : Bool) → HasNet (replayer count n x) y 1 → N (codes "more") ≡ truth more
          → Has (replayer count n x).items (assign y (covering 0 count (net (codes "more")))) → N y ≡ truth (up more)
      chained y more has_y e there =
          let expr : ExprOf ℕ = covering 0 count (net (codes "more")) in
          assigned (R st) (V st) (ident y) 1 (N y) (is_net st y 1 has_y) (R st) (V st) expr (holds st _ there).0
          ∙ ap (λ z. z % 2 ^ 1)
          (counter.chain (R st) (V st) have need count is_counter (λ j l. is_net st (numbered (codes "n") j) 32 (has_need j l)) 0 count
          (omega arith) (net (codes "more")) more
          (λ m. number_here (R st) (V st) (codes "more") more (is_bit st (codes "more") more has_more e) m)
          (max 1 (width_of (R st) expr)))
          ∙ one_low (up more)

      pub valid_up : (more : Bool) → x.dir ≡ Inward → N (codes "more") ≡ truth more → N (codes "kv") ≡ truth (up more)
      valid_up more way e = chained (codes "kv") more (has_kv way) e (inward_item _ way (inl refl))

      pub ready_up : (more : Bool) → x.dir ≡ Outward → N (codes "more") ≡ truth more → N (codes "sr") ≡ truth (up more)
      ready_up more way e = chained (codes "sr") more (has_sr way) e (outward_item _ way (inl refl))

      -- ---- after the clock
      module _ (ends : ℕ → Bool) (is_done : (j : ℕ) → j < count → N (numbered (codes "d") j) ≡ truth (ends j)) (room : count < 2 ^ 64)
          (most : (j : ℕ) → j < count → have j + 1 < 2 ^ 32) where
        abbrev counter_net : ℕ → Named ScopeNet
        counter_net j = record { name = numbered (codes "c") j; value = record { width = 32 } }

        abbrev place : ℕ → ℕ
        place j = position_or_len (λ (y : Named ScopeNet). bytes_eq (numbered (codes "c") j) y.name) (nets_of M)

        f : (j : ℕ) → j < count → Found (nets_of M) (counter_net j)
        f j l = standing.found_net file top s pins v st.settled path M st.plain st.at (counter_net j) (has_counter j l).0

        same_some : (p q : ℕ) → Some p ≡ Some q → p ≡ q
        same_some p q e = (cc)

        placed : (j : ℕ) (l : j < count) → (is_counter j l).place ≡ place j
        placed j l =
            same_some (is_counter j l).place (place j)
            (sym (is_counter j l).placed ∙ place_some (nets_of M) (counter_net j) (f j l) ∙ ap Some (sym (f j l).first))

        same_net : (a b : Named ScopeNet) → Some a ≡ Some b → a ≡ b
        same_net a b e = (cc)

        behind_letter : (a b : List ℕ) → 99 ∷ a ≡ 99 ∷ b → a ≡ b
        behind_letter a b e = (cc)

        apart : (i j : ℕ) → i < count → j < count → i ≢ j → place i ≢ place j
        apart i j a b other e =
            let fi = f i a in
            let fj = f j b in
            let same : fi.place ≡ fj.place = sym fi.first ∙ e ∙ fj.first in
            let one : counter_net i ≡ counter_net j =
            same_net (counter_net i) (counter_net j) (sym fi.there ∙ ap (slice_get (nets_of M)) same ∙ fj.there) in
            let digits : decimal i ≡ decimal j =
            behind_letter (decimal i) (decimal j) (ap (λ (z : Named ScopeNet). z.name) one) in
            other (same_digits i j (omega (arith, a, room)) (omega (arith, b, room)) digits)

        is_done_net : (j : ℕ) → j < count → IsNet (R st) (V st) (numbered (codes "d") j) 1 (truth (ends j))
        is_done_net j l = is_bit st (numbered (codes "d") j) (ends j) (has_done j l) (is_done j l)

        small_sum : (k : ℕ) (b : Bool) → k + 1 < 2 ^ 32 → k + truth b < 2 ^ 32
        small_sum k true h = h
        small_sum k false h = omega (arith, h)

        pub counter_next : (after : State) → IsNext file top s v after → (j : ℕ) → j < count
            → after.nets (path ++ numbered (codes "c") j ∷ []) ≡ have j + truth (ends j)
        counter_next after goes j l =
            let us = counter.counted (R st) (V st) have ends count is_counter is_done_net place placed 0 count in
            let updates : clocked_updates M (bare (nets_of M)) (V st) ≡ us =
            stills_first (bare (nets_of M)) (V st) regs (shown_items count x.dir x.widths ++ last) (all_upto IsStill _ (λ j. tt) 0 count)
            ∙ stills_first (bare (nets_of M)) (V st) (shown_items count x.dir x.widths) last (shown_still x.dir x.widths)
            ∙ append-nil (stmts_updates (R st) Nonblocking (counting 0 count) (V st))
            ∙ counter.counts (R st) (V st) have ends count is_counter is_done_net place placed 0 count (omega arith) in
            let at : place_of (nets_of M) (numbered (codes "c") j) ≡ Some (place j) =
            place_some (nets_of M) (counter_net j) (f j l) ∙ ap Some (sym (f j l).first) in
            next_at st (numbered (codes "c") j) 32 (has_counter j l) (place j) at after goes us updates
            ∙ counter.counter (R st) (V st) have ends count is_counter is_done_net place placed apart 0 count (omega arith) (S st) j (omega arith)
            (omega (arith, l)) (place_there st (numbered (codes "c") j) 32 (has_counter j l) (place j) at)
            ∙ ap (λ z. put_of z 0 32 ((have j + truth (ends j)) % 2 ^ 32))
            (old_at st (numbered (codes "c") j) 32 (has_counter j l) (place j) at ∙ was j l)
            ∙ counter.put_small (have j) (have j + truth (ends j)) (few j l) (small_sum (have j) (ends j) (most j l))

    -- ---- contents and completions
    pub shown : (way : x.dir ≡ Inward) (i w : ℕ) (up : Bool) → IsWidth w → slice_get x.widths i ≡ Some w → N (codes "kv") ≡ truth up
        → N (numbered (codes "k") i) ≡ (if up then N (numbered (codes "s") i) else 0)
    shown way i w up is there e =
        content_item st i w up
        (inward_item _ way (inr (has_left (each gated_content 0 x.widths) _ (gated_content i w)
        (has_each gated_content 0 x.widths i w i (omega arith) there))))
        (has_sink way i w is there) (has_kv way) (has_source way i w is there) e

    pub pop_inward : (way : x.dir ≡ Inward) (valid ready : Bool) → N (codes "kv") ≡ truth valid → N (codes "kr") ≡ truth ready
        → N (codes "pop") ≡ truth (valid && ready)
    pop_inward way valid ready e g =
        and_item st (codes "pop") (codes "kv") (codes "kr") valid ready
        (inward_item _ way (inr (has_right (each gated_content 0 x.widths) _ _ (inl refl)))) has_pop (has_kv way) (has_kr way) e g

    pub pop_outward : (way : x.dir ≡ Outward) (valid ready : Bool) → N (codes "sv") ≡ truth valid → N (codes "sr") ≡ truth ready
        → N (codes "pop") ≡ truth (valid && ready)
    pop_outward way valid ready e g =
        and_item st (codes "pop") (codes "sv") (codes "sr") valid ready (outward_item _ way (inr (inl refl))) has_pop (has_sv way) (has_sr way) e g
