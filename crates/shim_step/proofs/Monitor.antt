-- The monitor of a channel in a settled map, and its register in the next state.
use Rattle.std.proofs.Common.{◌≡◌, ℕ, ◌-◌, ◌%◌, ◌^◌, Bool, true, false, ◌&&◌, not, if◌then◌else◌}
use Rattle.std.proofs.Common.{List, [], ◌∷◌, ◌++◌, Some, refl, ap, ◌∙◌, arith, get_or, inl, inr, slice_get, append-nil}
use Rattle.std.specs.Prelude.{codes, max, bit_and}
use Rattle.std.specs.List.{AllByRecursion}
use Rattle.std.proofs.lemmas.List.{get_or-set_same}
use Rattle.net_order.specs.vidi_bits.Number.{IsWidth, truth, put_of}
use Rattle.net_order.proofs.vidi_bits_lemmas.Each.{each_append}
use Rattle.vlog_tree.specs.Tree.{PortOf, ItemOf, ModuleOf, ExprOf}
use Rattle.vlog_tree.specs.declared.module.Direction.TheVariants.{Input}
use Rattle.shim_trees.specs.vlog_size.Names.{Readable}
use Rattle.flat_parts.specs.vlog_names.declared.declaration.Shape.TheVariants.{Scalar}
use Rattle.flat_parts.specs.vlog_names.Entries.{declared}
use Rattle.flat_parts.specs.vlog_names.Ports.{has_reg}
use Rattle.flat_parts.specs.vlog_names.Different.{Differ}
use Rattle.net_design.specs.declared.values.Target.TheVariants as targets
use Rattle.net_design.specs.declared.values.Values.{Values}
use Rattle.net_design.specs.Updates.{update}
use Rattle.flat_parts.specs.vlog_block.Value.{value, width_of}
use Rattle.flat_parts.specs.vlog_block.Targets.{target_width, target_updates}
use Rattle.flat_parts.specs.vlog_driver.Names.{Full, State}
use Rattle.flat_parts.specs.vlog_driver.Next.{IsNext, clocked_updates}
use Rattle.shim_trees.specs.Pieces.{Name, ident, net, not_net, both, target, each, numbered, input, output, reg, gated_content}
use Rattle.shim_trees.specs.Monitor.{monitor, monitor_ports, monitor_items, gates, events}
use Rattle.shim_step.specs.Plain.{IsPlain, IsPlainItem, IsClockedItem, nets_of}
use Rattle.shim_step.specs.Nets.{IsNet}
use Rattle.shim_step.proofs.Elements.{Has, has_left, has_right, apart_from}
use Rattle.shim_step.proofs.Declared.{reg_found}
use Rattle.shim_step.proofs.Scopes.{bare}
use Rattle.shim_step.proofs.Standing as standing
use Rattle.shim_step.proofs.Whole.{target_bits}
use Rattle.shim_step.proofs.Lists.{has_each, all_each}
use Rattle.shim_step.proofs.Bits.{width_here, number_here}
use Rattle.shim_step.proofs.Stand.{HasNet, port_has, reg_has, one_bit, Stand, R, V, is_net, is_bit, and_item, and_not_item, content_item}
use Rattle.shim_step.proofs.Clocked.{IsStill, stills_first, one_update, S, place_there, old_at, next_at}

-- the bit that is put
put_table : (f a b : Bool) → put_of (truth f) 0 1 (bit_and (truth a) (2 ^ 1 - 1 - truth b % 2 ^ 1)) ≡ truth (a && not b)
put_table true true true = refl
put_table true true false = refl
put_table true false true = refl
put_table true false false = refl
put_table false true true = refl
put_table false true false = refl
put_table false false true = refl
put_table false false false = refl

one_low : (b : Bool) → truth b % 2 ^ 1 ≡ truth b
one_low true = refl
one_low false = refl

module _ (n : ℕ) (ws : List ℕ) where
  abbrev M : ModuleOf ℕ
  M = monitor n ws

  abbrev contents : List (ItemOf ℕ)
  contents = each gated_content 0 ws

  plain_items : AllByRecursion IsPlainItem (monitor_items ws)
  plain_items =
      ((tt, tt), (tt, (tt, each_append IsPlainItem contents events (all_each IsPlainItem gated_content (λ i w. tt) 0 ws) (tt, (tt, (tt, tt))))))

  pub clocked_items : AllByRecursion IsClockedItem (monitor_items ws)
  clocked_items =
      (tt, (tt, (tt, each_append IsClockedItem contents events (all_each IsClockedItem gated_content (λ i w. tt) 0 ws) (tt, (tt, (tt, tt))))))

  pub monitor_plain : Differ (declared (monitor n ws)) → IsPlain (monitor n ws)
  monitor_plain differ = record { bare = refl; items = plain_items; differ = differ }

  -- ---- its nets
  abbrev sources : List (PortOf ℕ)
  sources = each (λ i w. input (numbered (codes "s") i) w) 0 ws

  abbrev sinks : List (PortOf ℕ)
  sinks = each (λ i w. output (numbered (codes "k") i) w) 0 ws

  abbrev last_ports : List (PortOf ℕ)
  last_ports = output (codes "start") 1 ∷ output (codes "stop") 1 ∷ []

  abbrev sink_ports : List (PortOf ℕ)
  sink_ports = output (codes "kv") 1 ∷ input (codes "kr") 1 ∷ (sinks ++ last_ports)

  behind_sources : (p : PortOf ℕ) → Has sink_ports p → Has (monitor_ports ws) p
  behind_sources p h = inr (inr (inr (inr (has_right sources sink_ports p h))))

  last_port : (p : PortOf ℕ) → Has last_ports p → Has (monitor_ports ws) p
  last_port p h = behind_sources p (inr (inr (has_right sinks last_ports p h)))

  pub has_g : HasNet (monitor n ws) (codes "g") 1
  has_g = port_has M (Input false) (codes "g") 1 one_bit (inr (inl refl))

  pub has_sv : HasNet (monitor n ws) (codes "sv") 1
  has_sv = port_has M (Input false) (codes "sv") 1 one_bit (inr (inr (inl refl)))

  pub has_sr : HasNet (monitor n ws) (codes "sr") 1
  has_sr = port_has M _ (codes "sr") 1 one_bit (inr (inr (inr (inl refl))))

  pub has_kv : HasNet (monitor n ws) (codes "kv") 1
  has_kv = port_has M _ (codes "kv") 1 one_bit (behind_sources (output (codes "kv") 1) (inl refl))

  pub has_kr : HasNet (monitor n ws) (codes "kr") 1
  has_kr = port_has M _ (codes "kr") 1 one_bit (behind_sources (input (codes "kr") 1) (inr (inl refl)))

  pub has_start : HasNet (monitor n ws) (codes "start") 1
  has_start = port_has M _ (codes "start") 1 one_bit (last_port (output (codes "start") 1) (inl refl))

  pub has_stop : HasNet (monitor n ws) (codes "stop") 1
  has_stop = port_has M _ (codes "stop") 1 one_bit (last_port (output (codes "stop") 1) (inr (inl refl)))

  pub has_fly : HasNet (monitor n ws) (codes "fly") 1
  has_fly = reg_has M (codes "fly") 1 one_bit (inl refl)

  pub has_source : (i w : ℕ) → IsWidth w → slice_get ws i ≡ Some w → HasNet (monitor n ws) (numbered (codes "s") i) w
  has_source i w is e =
      port_has M _ (numbered (codes "s") i) w is
      (inr (inr (inr (inr (has_left sources sink_ports (input (numbered (codes "s") i) w)
      (has_each (λ i w. input (numbered (codes "s") i) w) 0 ws i w i (omega arith) e))))))

  pub has_sink : (i w : ℕ) → IsWidth w → slice_get ws i ≡ Some w → HasNet (monitor n ws) (numbered (codes "k") i) w
  has_sink i w is e =
      port_has M _ (numbered (codes "k") i) w is
      (behind_sources (output (numbered (codes "k") i) w) (inr (inr (has_left sinks last_ports (output (numbered (codes "k") i) w)
      (has_each (λ i w. output (numbered (codes "k") i) w) 0 ws i w i (omega arith) e)))))

  -- ---- its items
  event_item : (i : ItemOf ℕ) → Has events i → Has (monitor_items ws) i
  event_item i h = inr (inr (inr (has_right contents events i h)))

  module _ {file : List (ModuleOf ℕ)} {top : ModuleOf ℕ} {s : State} {pins : List ℕ} {v : Full → ℕ} {path : Full}
      (st : Stand file top s pins v path (monitor n ws)) where
    abbrev N : Name → ℕ
    N x = v (path ++ x ∷ [])

    pub gated_valid : (sv g : Bool) → N (codes "sv") ≡ truth sv → N (codes "g") ≡ truth g → N (codes "kv") ≡ truth (sv && g)
    gated_valid sv g e f = and_item st (codes "kv") (codes "sv") (codes "g") sv g (inr (inl refl)) has_kv has_sv has_g e f

    pub gated_ready : (kr g : Bool) → N (codes "kr") ≡ truth kr → N (codes "g") ≡ truth g → N (codes "sr") ≡ truth (kr && g)
    gated_ready kr g e f = and_item st (codes "sr") (codes "kr") (codes "g") kr g (inr (inr (inl refl))) has_sr has_kr has_g e f

    pub starts : (kv fly : Bool) → N (codes "kv") ≡ truth kv → N (codes "fly") ≡ truth fly → N (codes "start") ≡ truth (kv && not fly)
    starts kv fly e f =
        and_not_item st (codes "start") (codes "kv") (codes "fly") kv fly (event_item _ (inl refl)) has_start has_kv has_fly e f

    pub stops : (kv kr : Bool) → N (codes "kv") ≡ truth kv → N (codes "kr") ≡ truth kr → N (codes "stop") ≡ truth (kv && kr)
    stops kv kr e f = and_item st (codes "stop") (codes "kv") (codes "kr") kv kr (event_item _ (inr (inl refl))) has_stop has_kv has_kr e f

    pub shown : (i w : ℕ) (kv : Bool) → IsWidth w → slice_get ws i ≡ Some w → N (codes "kv") ≡ truth kv
        → N (numbered (codes "k") i) ≡ (if kv then N (numbered (codes "s") i) else 0)
    shown i w kv is there e =
        content_item st i w kv
        (inr (inr (inr (has_left contents events (gated_content i w) (has_each gated_content 0 ws i w i (omega arith) there)))))
        (has_sink i w is there) has_kv (has_source i w is there) e

    -- ---- the flight
    fly_reg : has_reg (monitor n ws) (codes "fly") ≡ true
    fly_reg = reg_found M refl (apart_from (declared M) st.plain.differ) (reg (codes "fly") 1) (codes "fly") Scalar (inl refl) (inl refl)

    -- what the state holds is what the map has
    pub flight_held : (f : Bool) → s.nets (path ++ codes "fly" ∷ []) ≡ truth f → N (codes "fly") ≡ truth f
    flight_held f e =
        standing.held file top s pins v st.settled path M st.plain st.at clocked_items
        (record { name = codes "fly"; value = record { width = 1 } }) has_fly.0 fly_reg
        ∙ ap (λ z. z % 2 ^ 1) e ∙ one_low f

    still_contents : AllByRecursion IsStill contents
    still_contents = all_each IsStill gated_content (λ i w. tt) 0 ws

    abbrev kept : ExprOf ℕ
    kept = both (net (codes "kv")) (not_net (codes "kr"))

    -- after the clock a transaction is in flight that was shown and not completed
    pub flight_next : (after : State) → IsNext file top s v after → (kv kr f : Bool) → N (codes "kv") ≡ truth kv → N (codes "kr") ≡ truth kr
        → s.nets (path ++ codes "fly" ∷ []) ≡ truth f → after.nets (path ++ codes "fly" ∷ []) ≡ truth (kv && not kr)
    flight_next after goes kv kr f is_kv is_kr was =
        let r : Readable = R st in
        let u : Values = V st in
        let fly : IsNet (R st) (V st) (codes "fly") 1 (N (codes "fly")) = is_net st (codes "fly") 1 has_fly in
        let bit_kv = is_bit st (codes "kv") kv has_kv is_kv in
        let bit_kr = is_bit st (codes "kr") kr has_kr is_kr in
        let m : ℕ = max (target_width (R st) (target (codes "fly"))) (width_of (R st) kept) in
        let wide : m ≡ 1 =
        ap (λ z. max z (width_of (R st) kept)) (target_bits (R st) (V st) (ident (codes "fly")) 1 _ fly)
        ∙ ap (λ z. max 1 (max z (width_of (R st) (not_net (codes "kr"))))) (width_here (R st) (V st) (codes "kv") kv bit_kv)
        ∙ ap (λ z. max 1 (max 1 z)) (width_here (R st) (V st) (codes "kr") kr bit_kr) in
        let y : ℕ = value (R st) (V st) kept m in
        let number : y ≡ bit_and (truth kv) (2 ^ 1 - 1 - truth kr % 2 ^ 1) =
        ap (λ z. value (R st) (V st) kept z) wide
        ∙ ap (λ z. bit_and z (2 ^ 1 - 1 - value (R st) (V st) (net (codes "kr")) 1 % 2 ^ 1)) (number_here (R st) (V st) (codes "kv") kv bit_kv 1)
        ∙ ap (λ z. bit_and (truth kv) (2 ^ 1 - 1 - z % 2 ^ 1)) (number_here (R st) (V st) (codes "kr") kr bit_kr 1) in
        let us : clocked_updates M (bare (nets_of M)) (V st) ≡ update (targets.Net fly.place) 0 1 y ∷ [] =
        stills_first (bare (nets_of M)) (V st) gates (contents ++ events) (tt, (tt, (tt, tt)))
        ∙ stills_first (bare (nets_of M)) (V st) contents events still_contents
        ∙ append-nil (target_updates (R st) (V st) (target (codes "fly")) y)
        ∙ one_update (R st) (V st) (codes "fly") 1 _ fly y (omega arith) in
        next_at st (codes "fly") 1 has_fly fly.place fly.placed after goes (update (targets.Net fly.place) 0 1 y ∷ []) us
        ∙ get_or-set_same (S st).nets fly.place (put_of (get_or (S st).nets fly.place 0) 0 1 y) 0
        (place_there st (codes "fly") 1 has_fly fly.place fly.placed)
        ∙ ap (λ z. put_of z 0 1 y) (old_at st (codes "fly") 1 has_fly fly.place fly.placed ∙ was)
        ∙ ap (λ z. put_of (truth f) 0 1 z) number
        ∙ put_table f kv kr
