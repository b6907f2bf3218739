-- The inputs of a top for the reset and the ties, beside their numbers.
use Rattle.std.proofs.Common.{◌≡◌, ◌≢◌, ℕ, ◌<◌, ◌^◌, Bool, true, false, if◌then◌else◌, List, [], ◌∷◌, ◌++◌, map}
use Rattle.std.proofs.Common.{Option, Some, None, inl, inr, refl, sym, ap, ◌∙◌, subst, arith, append_assoc, slice_get}
use Rattle.std.specs.Prelude.{codes, IfSome}
use Rattle.std.specs.List.{flat_map, AllZip, AllByRecursion}
use Rattle.std.specs.Option.{option_to_list}
use Rattle.std.specs.Str.{bytes_eq}
use Rattle.net_sim.specs.vidi_bits.Number.{IsWidth, truth}
use Rattle.vlog_tree.specs.Tree.{PortOf, ModuleOf, FileOf}
use Rattle.vlog_design.specs.vlog_size.Table.{Named, value_of}
use Rattle.vlog_design.specs.vlog_names.Entries.{no_port, port_entries}
use Rattle.shim_step.specs.vlog_scope.Scope.{scope_with}
use Rattle.shim_step.specs.vlog_driver.Names.{Name, Full}
use Rattle.net_design.specs.declared.design.Direction.TheVariants.{Input, Output}
use Rattle.net_design.specs.declared.design.Port.{Port}
use Rattle.net_design.specs.declared.design.Design.{Design}
use Rattle.vlog_design.specs.flat_parts.Nets.{port_of}
use Rattle.replay_run.specs.chan_map.declared.pins.Map.{Map}
use Rattle.replay_run.specs.chan_map.declared.pins.Pin.{Pin}
use Rattle.replay_run.specs.chan_map.declared.pins.Reset.{Reset}
use Rattle.replay_run.specs.chan_map.declared.pins.Tie.{Tie}
use Rattle.replay_run.specs.chan_map.Bound.{IsPin, IsTie}
use Rattle.replay_run.specs.run_model.Pins.{reset_input}
use Rattle.shim_gen.specs.shim_trees.Links.{tied, tied_input, tied_port, tied_link, tied_ports, held, reset_width, tie_width, channel_links, link}
use Rattle.shim_gen.specs.shim_trees.Pieces.{each_some}
use Rattle.replay_run.specs.trace_model.declared.channel.Channel.{Channel}
use Rattle.shim_step.proofs.Elements.{Has, has_left, has_right, has_map, mapped, found, Apart, apart_front}
use Rattle.shim_step.specs.Wrapped.{IsWrapped}
use Rattle.shim_step.specs.Ports.{HasHeld}
use Rattle.shim_step.proofs.Dut.{behind}
use Rattle.shim_step.proofs.Links.{links_apart}
use Rattle.shim_step.proofs.Lists.{in_option}
use Rattle.shim_step.proofs.Round.{ports_are, ports_differ, pin_width}
use Rattle.shim_step.proofs.Stand.{one_bit}
use Rattle.shim_cosim.specs.Held.{reset_number, tie_number, held_numbers, held_number}
use Rattle.shim_cosim.proofs.Ports.{side, flat_width, IsHeaded}
use Rattle.shim_cosim.proofs.Zips.{Fits, zip_append}

-- ---- a name in two lists of the same names, of widths and of numbers
abbrev pub Key : Named ℕ → Named ℕ → Type 0
Key x y = (x.name ≡ y.name) × (y.value < 2 ^ x.value) × IsWidth x.value

abbrev Both : Option ℕ → Option ℕ → Type 0
Both None None = Unit {0}
Both None (Some n) = ⊥
Both (Some w) None = ⊥
Both (Some w) (Some n) = (n < 2 ^ w) × IsWidth w

both_if : (b : Bool) (w n : ℕ) (o p : Option ℕ) → (n < 2 ^ w) × IsWidth w → Both o p
    → Both (if b then Some w else o) (if b then Some n else p)
both_if true w n o p fit h = fit
both_if false w n o p fit h = h

both_of : (xs ys : List (Named ℕ)) → AllZip Key xs ys → (q : Name) → Both (value_of xs q) (value_of ys q)
both_of [] [] h q = tt
both_of [] (y ∷ ys) h q = absurd h
both_of (x ∷ xs) [] h q = absurd h
both_of (x ∷ xs) (y ∷ ys) h q =
    subst (λ z. Both (if bytes_eq q x.name then Some x.value else value_of xs q) (if bytes_eq q z then Some y.value else value_of ys q)) h.0.0
    (both_if (bytes_eq q x.name) x.value y.value (value_of xs q) (value_of ys q) (h.0.1, h.0.2) (both_of xs ys h.1 q))

pub truth_below : (b : Bool) → truth b < 2 ^ 1
truth_below true = omega arith
truth_below false = omega arith

reset_keys : (resets : Bool) (o : Option Reset)
    → AllZip Key (map reset_width (option_to_list o)) (map (reset_number resets) (option_to_list o))
reset_keys resets None = tt
reset_keys resets (Some r) = ((refl, truth_below _, one_bit), tt)

tie_keys : (d : Design) → ((w : ℕ) (pin : Pin) → IsPin d Input w pin → IsWidth w) → (ts : List Tie) → AllByRecursion (IsTie d) ts
    → AllZip Key (map tie_width ts) (map tie_number ts)
tie_keys d wide [] h = tt
tie_keys d wide (t ∷ ts) h = ((refl, h.0.fits, wide t.width t.pin h.0.pin), tie_keys d wide ts h.1)

module _ {f : FileOf ℕ} {a : Map} {m : ModuleOf ℕ} {d : Design} (w : IsWrapped f a m d) where
  pub keys : (resets : Bool) → AllZip Key (held a) (held_numbers a resets)
  keys resets =
      zip_append Key (map reset_width (option_to_list a.reset)) (map tie_width a.ties) (map (reset_number resets) (option_to_list a.reset))
      (map tie_number a.ties) (reset_keys resets a.reset)
      (tie_keys d (λ n pin is. pin_width w Input n pin is) a.ties w.mapped.ties)

-- ---- the inputs, in port order
module _ (H N : List (Named ℕ)) (keyed : AllZip Key H N) where
  head_fits : (x : Name) (o p : Option ℕ) → Both o p → (rest : List (PortOf ℕ)) (nums : List ℕ) → AllZip Fits (side Input rest) nums
      → AllZip Fits (side Input (tied_input x o ++ rest)) (option_to_list p ++ nums)
  head_fits x None None h rest nums more = more
  head_fits x None (Some n) h rest nums more = absurd h
  head_fits x (Some w) None h rest nums more = absurd h
  head_fits x (Some w) (Some n) h rest nums more = (subst (λ k. n < 2 ^ k) (sym (flat_width w h.1)) h.0, more)

  pub tied_fit : (ports : List (PortOf ℕ)) → AllZip Fits (side Input (flat_map (tied_port H) ports)) (flat_map (held_number N) ports)
  tied_fit [] = tt
  tied_fit (p ∷ ps) =
      head_fits p.id.name (value_of H p.id.name) (value_of N p.id.name) (both_of H N keyed p.id.name)
      (flat_map (tied_port H) ps) (flat_map (held_number N) ps) (tied_fit ps)

  module _ (f : Name → ℕ) where
    abbrev Shows : Port → ℕ → Type 0
    Shows p n = f p.name ≡ n

    head_at : (x : Name) (o p : Option ℕ) → Both o p → (rest : List (PortOf ℕ)) (nums : List ℕ)
        → AllZip Shows (side Input (tied_input x o ++ rest)) (option_to_list p ++ nums)
        → ((n : ℕ) → p ≡ Some n → f (tied x) ≡ n) × AllZip Shows (side Input rest) nums
    head_at x None None h rest nums more = ((λ n e. absurd (cc)), more)
    head_at x None (Some n) h rest nums more = absurd h
    head_at x (Some w) None h rest nums more = absurd h
    head_at x (Some w) (Some n) h rest nums more = ((λ k e. more.0 ∙ (let same : n ≡ k = cc in same)), more.1)

    pub tied_at : (ports : List (PortOf ℕ)) → AllZip Shows (side Input (flat_map (tied_port H) ports)) (flat_map (held_number N) ports)
        → (p : PortOf ℕ) → Has ports p → (n : ℕ) → value_of N p.id.name ≡ Some n → f (tied p.id.name) ≡ n
    tied_at [] z p h n e = absurd h
    tied_at (q ∷ qs) z p (inl same) n e =
        let here = head_at q.id.name (value_of H q.id.name) (value_of N q.id.name) (both_of H N keyed q.id.name)
        (flat_map (tied_port H) qs) (flat_map (held_number N) qs) z in
        let name : p.id.name ≡ q.id.name = sym (ap (λ (r : PortOf ℕ). r.id.name) same) in
        ap (λ x. f (tied x)) name ∙ here.0 n (ap (value_of N) (sym name) ∙ e)
    tied_at (q ∷ qs) z p (inr more) n e =
        let here = head_at q.id.name (value_of H q.id.name) (value_of N q.id.name) (both_of H N keyed q.id.name)
        (flat_map (tied_port H) qs) (flat_map (held_number N) qs) z in
        tied_at qs here.1 p more n e

-- they have heads, and none is an output
headed_input : (x : Name) (o : Option ℕ) (rest : List (PortOf ℕ)) → AllByRecursion IsHeaded rest → AllByRecursion IsHeaded (tied_input x o ++ rest)
headed_input x None rest h = h
headed_input x (Some w) rest h = ((_, refl), h)

pub tied_headed : (H : List (Named ℕ)) (ports : List (PortOf ℕ)) → AllByRecursion IsHeaded (flat_map (tied_port H) ports)
tied_headed H [] = tt
tied_headed H (p ∷ ps) = headed_input p.id.name (value_of H p.id.name) (flat_map (tied_port H) ps) (tied_headed H ps)

no_output : (x : Name) (o : Option ℕ) (rest : List (PortOf ℕ)) → side Output (tied_input x o ++ rest) ≡ side Output rest
no_output x None rest = refl
no_output x (Some w) rest = refl

pub tied_outputs : (H : List (Named ℕ)) (ports : List (PortOf ℕ)) → side Output (flat_map (tied_port H) ports) ≡ []
tied_outputs H [] = refl
tied_outputs H (p ∷ ps) = no_output p.id.name (value_of H p.id.name) (flat_map (tied_port H) ps) ∙ tied_outputs H ps

-- ---- what is held
apart_names : {V W : Type 0} (xs : List (Named V)) (ys : List (Named W)) → AllZip (λ (x : Named V) (y : Named W). x.name ≡ y.name) xs ys
    → Apart xs → Apart ys
apart_names [] [] z h = tt
apart_names [] (y ∷ ys) z h = absurd z
apart_names (x ∷ xs) [] z h = absurd z
apart_names {V} {W} (x ∷ xs) (y ∷ ys) z h = (others xs ys z.1 h.0, apart_names xs ys z.1 h.1) where
  others : (us : List (Named V)) (ws : List (Named W)) → AllZip (λ (u : Named V) (v : Named W). u.name ≡ v.name) us ws
      → AllByRecursion (λ (u : Named V). x.name ≢ u.name) us → AllByRecursion (λ (v : Named W). y.name ≢ v.name) ws
  others [] [] q g = tt
  others [] (v ∷ ws) q g = absurd q
  others (u ∷ us) [] q g = absurd q
  others (u ∷ us) (v ∷ ws) q g = ((λ e. g.0 (z.0 ∙ e ∙ sym q.0)), others us ws q.1 g.1)

same_names : {X V W : Type 0} (f : X → Named V) (g : X → Named W) → ((x : X) → (f x).name ≡ (g x).name) → (xs : List X)
    → AllZip (λ (u : Named V) (v : Named W). u.name ≡ v.name) (map f xs) (map g xs)
same_names f g h [] = tt
same_names f g h (x ∷ xs) = (h x, same_names f g h xs)

module _ {f : FileOf ℕ} {a : Map} {m : ModuleOf ℕ} {d : Design} (w : IsWrapped f a m d) (resets : Bool) where
  abbrev N : List (Named ℕ)
  N = held_numbers a resets

  numbers_apart : Apart (held_numbers a resets)
  numbers_apart =
      let w_ = codes "w_" in
      let R : List (Named Name) = map (λ (r : Reset). tied_link r.pin) (option_to_list a.reset) in
      let T : List (Named Name) = map (λ (t : Tie). tied_link t.pin) a.ties in
      let P : List (Named Name) = each_some (λ n (c : Channel). channel_links w_ w_ n c.dir (slice_get a.plugs n)) 0 a.channels in
      let all : Apart (link a.clock (codes "clk") ∷ (R ++ (T ++ P))) = links_apart d (ports_differ w) a w.mapped w_ w_ in
      let front : Apart (R ++ T) = apart_front (R ++ T) P (subst Apart (sym (append_assoc R T P)) all.1) in
      apart_names (R ++ T) (held_numbers a resets)
      (zip_append (λ (x : Named Name) (y : Named ℕ). x.name ≡ y.name) R T (map (reset_number resets) (option_to_list a.reset)) (map tie_number a.ties)
      (same_names (λ (r : Reset). tied_link r.pin) (reset_number resets) (λ r. refl) (option_to_list a.reset))
      (same_names (λ (t : Tie). tied_link t.pin) tie_number (λ t. refl) a.ties))
      front

  module _ (v : Full → ℕ)
      (z : AllZip (λ (p : Port) n. v (p.name ∷ []) ≡ n) (side Input (tied_ports a m.ports)) (flat_map (held_number (held_numbers a resets)) m.ports)) where
    held_at : (pin : Pin) (width number : ℕ) → IsPin d Input width pin → Has (held_numbers a resets) (record { name = pin.name; value = number })
        → v (tied pin.name ∷ []) ≡ number
    held_at pin width number p there =
        let e = mapped (port_of (scope_with [] m)) (port_entries no_port m.ports) p.port p.p (ports_are w p.port p.p p.at) in
        let b = behind no_port m.ports p.port e.x e.at in
        let named_so : b.p.id.name ≡ pin.name = b.named ∙ ap (λ (q : Port). q.name) e.is ∙ p.name in
        let value : value_of (held_numbers a resets) pin.name ≡ Some number =
        (found (held_numbers a resets) (record { name = pin.name; value = number }) numbers_apart there).value in
        ap (λ x. v (tied x ∷ [])) (sym named_so)
        ∙ tied_at (held a) (held_numbers a resets) (keys w resets) (λ x. v (x ∷ [])) m.ports z b.p b.there number
        (ap (value_of (held_numbers a resets)) named_so ∙ value)

    reset_at : (o : Option Reset) → a.reset ≡ o → IfSome o (λ (r : Reset). IsPin d Input 1 r.pin)
        → IfSome o (λ (r : Reset). v (tied r.pin.name ∷ []) ≡ (reset_input resets r).number)
    reset_at None e p = tt
    reset_at (Some r) e p =
        held_at r.pin 1 (reset_input resets r).number p
        (has_left (map (reset_number resets) (option_to_list a.reset)) (map tie_number a.ties) _
        (has_map (reset_number resets) (option_to_list a.reset) r (in_option a.reset r e)))

    ties_at : (ts : List Tie) → ((t : Tie) → Has ts t → Has a.ties t) → AllByRecursion (IsTie d) ts
        → AllByRecursion (λ (t : Tie). v (tied t.pin.name ∷ []) ≡ t.number) ts
    ties_at [] all p = tt
    ties_at (t ∷ ts) all p = (
      held_at t.pin t.width t.number p.0.pin
          (has_right (map (reset_number resets) (option_to_list a.reset)) (map tie_number a.ties) _
          (has_map tie_number a.ties t (all t (inl refl)))),
      ties_at ts (λ u there. all u (inr there)) p.1,
    )

    pub has_held : v (codes "clk" ∷ []) ≡ 0 → HasHeld a resets v
    has_held low = record {
      clock = low;
      reset = reset_at a.reset refl w.mapped.reset;
      ties = ties_at a.ties (λ t there. there) w.mapped.ties;
    }
