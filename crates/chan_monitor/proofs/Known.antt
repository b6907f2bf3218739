-- What follows where it is merely known that a map is one of a design, and rows after which given channels are in flight.
use Rattle.std.proofs.Common.{◌≡◌, ℕ, ◌<◌, ◌&&◌, Bool, true, false, not, List, [], ◌∷◌, Option, Some, None}
use Rattle.std.proofs.Common.{length, replicate, get_or, count_by, refl, ap, sym, subst, ◌∙◌, arith}
use Rattle.std.proofs.Math.Logic.{∥∥₁_elim, ∥∥₁_map}
use Rattle.std.proofs.Props.{props}
use Rattle.std.specs.List.{refill, AllZip, AllByRecursion}
use Rattle.std.specs.Option.{IfSome}
use Rattle.net_design.proofs.OneProof.{one_prop}
use Rattle.run_model.specs.vidi_bits.Number.{has}
use Rattle.run_model.specs.trace_model.declared.channel.Channel.{Channel}
use Rattle.run_model.specs.trace_model.declared.row.Row.{Row}
use Rattle.run_model.specs.trace_model.Channel.{IsTable, IsChannel, IsName}
use Rattle.run_model.specs.trace_model.Counting.{IsNth}
use Rattle.run_model.specs.trace_model.Row.{is_in_flight}
use Rattle.run_model.proofs.trace_model_lemmas.CountingLemmas.{nth, nth-below, nth-unique}
use Rattle.net_design.specs.declared.design.Port.{Port}
use Rattle.net_design.specs.declared.design.Direction.{Direction}
use Rattle.net_design.specs.declared.design.Direction.TheVariants.{Input}
use Rattle.net_design.specs.declared.design.Design.{Design}
use Rattle.net_design.specs.declared.values.Values.{Values}
use Rattle.net_design.specs.Pins.{HasOneMap}
use Rattle.net_design.specs.Settled.{same_direction}
use Rattle.run_model.specs.chan_map.declared.pins.Map.{Map}
use Rattle.run_model.specs.chan_map.declared.pins.Pin.{Pin}
use Rattle.run_model.specs.chan_map.declared.pins.Plug.{Plug}
use Rattle.run_model.specs.chan_map.declared.pins.Reset.{Reset}
use Rattle.run_model.specs.chan_map.declared.pins.Tie.{Tie}
use Rattle.run_model.specs.chan_map.Bound.{IsPin, IsPlug, IsTie}
use Rattle.run_model.specs.chan_map.Ports.{source_side, sink_side}
use Rattle.run_model.specs.Building.{mask_of, PortsAreNets}
use Rattle.run_model.specs.MapOf.{IsMapOf}
use Rattle.run_model.specs.Pins.{entered, silent}
use Rattle.run_model.proofs.Contents.{has-mask}
use Rattle.run_model.proofs.PinLemmas.{ways}
use Rattle.chan_monitor.specs.declared.rows.Handshakes.{Handshakes}
use Rattle.chan_monitor.specs.Around.{handshakes, AreHeld, AreMonitors, IsAround}
use Rattle.chan_monitor.specs.Entering.{held_inputs, write}
use Rattle.chan_monitor.specs.Passing.{stays}
use Rattle.chan_monitor.specs.Shell.{IsMapped, IsRunning}
use Rattle.chan_monitor.proofs.Held.{held-from, held-pins, pins-many}
use Rattle.chan_monitor.proofs.RowOfCycle.{all-idle, held-of, refill-is}

-- ---- pins
-- the port of a pin is the one of its place among those of its direction
abbrev IsPort : Design → Direction → ℕ → ℕ → Port → Type 0
IsPort d way place k p = IsNth (λ (q : Port). same_direction way q.direction) d.ports place k p

port-of : (d : Design) (way : Direction) (width : ℕ) (pin : Pin) → (is : IsPin d way width pin) → IsPort d way pin.place is.port is.p
port-of d way width pin is = record { at = is.at; passes = ways way is.p is.direction_is; before = sym is.place }

same-port : (d : Design) (way : Direction) (width place k : ℕ) (p : Port) (pin : Pin) → place ≡ pin.place → IsPort d way place k p
    → (is : IsPin d way width pin) → (is.port ≡ k) × (is.p ≡ p)
same-port d way width place k p pin e here is = nth-unique (λ (q : Port). same_direction way q.direction) d.ports pin.place is.port k is.p p
    (port-of d way width pin is) (subst (λ j. IsPort d way j k p) e here)

known-pin : (d : Design) (way : Direction) (width : ℕ) (pin : Pin) → ∥ IsPin d way width pin ∥₁ → IsPin d way width pin
known-pin d way width pin known =
    let l : pin.place < count_by (λ (q : Port). same_direction way q.direction) d.ports = ∥∥₁_elim known (hlevel props)
    (λ (is : IsPin d way width pin). nth-below (λ (q : Port). same_direction way q.direction) d.ports pin.place is.port is.p
    (port-of d way width pin is)) in
    let there = nth (λ (q : Port). same_direction way q.direction) d.ports pin.place l in
    record {
      port = there.place;
      p = there.item;
      at = there.is.at;
      name = ∥∥₁_elim known (hlevel props) (λ (is : IsPin d way width pin).
          sym (ap (λ (q : Port). q.name) (same-port d way width pin.place there.place there.item pin refl there.is is).1) ∙ is.name);
      direction_is = ∥∥₁_elim known (hlevel props) (λ (is : IsPin d way width pin).
          sym (ap (λ (q : Port). q.direction) (same-port d way width pin.place there.place there.item pin refl there.is is).1)
          ∙ is.direction_is);
      width_is = ∥∥₁_elim known (hlevel props) (λ (is : IsPin d way width pin).
          sym (ap (λ (q : Port). q.width) (same-port d way width pin.place there.place there.item pin refl there.is is).1) ∙ is.width_is);
      place = sym there.is.before;
    }

one-port : (d : Design) (way : Direction) (width : ℕ) (pin : Pin) → (a b : IsPin d way width pin) → a.port ≡ b.port
one-port d way width pin a b = (same-port d way width pin.place b.port b.p pin refl (port-of d way width pin b) a).0

-- ---- lists
known-zip : {A B : Type 0} (R : A → B → Type 0) → ((x : A) (y : B) → ∥ R x y ∥₁ → R x y) → (xs : List A) (ys : List B)
    → ∥ AllZip R xs ys ∥₁ → AllZip R xs ys
known-zip R each [] [] known = tt
known-zip R each [] (y ∷ ys) known = ∥∥₁_elim known (hlevel props) (λ bad. bad)
known-zip R each (x ∷ xs) [] known = ∥∥₁_elim known (hlevel props) (λ bad. bad)
known-zip R each (x ∷ xs) (y ∷ ys) known = (
  each x y (∥∥₁_map known (λ (both : R x y × AllZip R xs ys). both.0)),
  known-zip R each xs ys (∥∥₁_map known (λ (both : R x y × AllZip R xs ys). both.1)),
)

known-all : {A : Type 0} (P : A → Type 0) → ((x : A) → ∥ P x ∥₁ → P x) → (xs : List A) → ∥ AllByRecursion P xs ∥₁ → AllByRecursion P xs
known-all P each [] known = tt
known-all P each (x ∷ xs) known = (
  each x (∥∥₁_map known (λ (both : P x × AllByRecursion P xs). both.0)),
  known-all P each xs (∥∥₁_map known (λ (both : P x × AllByRecursion P xs). both.1)),
)

known-some : {A : Type 0} (P : A → Type 0) → ((x : A) → ∥ P x ∥₁ → P x) → (o : Option A) → ∥ IfSome o P ∥₁ → IfSome o P
known-some P each None known = tt
known-some P each (Some x) known = each x known

-- ---- maps
known-plug : (d : Design) (x : Channel) (plug : Plug) → ∥ IsPlug d x plug ∥₁ → IsPlug d x plug
known-plug d x plug known = record {
  valid = known-pin d (source_side x.dir) 1 plug.valid (∥∥₁_map known (λ (is : IsPlug d x plug). is.valid));
  ready = known-pin d (sink_side x.dir) 1 plug.ready (∥∥₁_map known (λ (is : IsPlug d x plug). is.ready));
  contents = known-zip (λ width pin. IsPin d (source_side x.dir) width pin) (known-pin d (source_side x.dir)) x.widths plug.contents
      (∥∥₁_map known (λ (is : IsPlug d x plug). is.contents));
}

known-tie : (d : Design) (tie : Tie) → ∥ IsTie d tie ∥₁ → IsTie d tie
known-tie d tie known = record {
  pin = known-pin d Input tie.width tie.pin (∥∥₁_map known (λ (is : IsTie d tie). is.pin));
  fits = ∥∥₁_elim known (hlevel props) (λ (is : IsTie d tie). is.fits);
}

name_prop : (name : List ℕ) → IsProp (IsName name)
name_prop [] = hlevel props
name_prop (b ∷ bs) = hlevel props

channel_prop : (x : Channel) → IsProp (IsChannel x)
channel_prop x = hlevel (props, name_prop)

table_prop : (channels : List Channel) → IsProp (IsTable channels)
table_prop channels = hlevel (props, channel_prop)

known-map : (d : Design) (m : Map) → ∥ IsMapOf d m ∥₁ → IsMapOf d m
known-map d m known =
    let pin = known-pin d Input 1 m.clock (∥∥₁_map known (λ (is : IsMapOf d m). is.clock)) in
    record {
      table = ∥∥₁_elim known (table_prop m.channels) (λ (is : IsMapOf d m). is.table);
      plugs = known-zip (IsPlug d) (known-plug d) m.channels m.plugs (∥∥₁_map known (λ (is : IsMapOf d m). is.plugs));
      ties = known-all (IsTie d) (known-tie d) m.ties (∥∥₁_map known (λ (is : IsMapOf d m). is.ties));
      reset = known-some (λ (r : Reset). IsPin d Input 1 r.pin) (λ r. known-pin d Input 1 r.pin) m.reset
          (∥∥₁_map known (λ (is : IsMapOf d m). is.reset));
      clock = pin;
      own_clock = λ k e. ∥∥₁_elim known (hlevel props)
          (λ (is : IsMapOf d m). is.own_clock k e ∙ one-port d Input 1 m.clock is.clock pin);
      inputs = ∥∥₁_elim known (hlevel props) (λ (is : IsMapOf d m). is.inputs);
      differ = ∥∥₁_elim known (hlevel props) (λ (is : IsMapOf d m). is.differ);
    }

nets_prop : (d : Design) → IsProp (PortsAreNets d)
nets_prop d = hlevel props

pub known-mapped : (d : Design) (m : Map) → ∥ IsMapped d m ∥₁ → IsMapped d m
known-mapped d m known = record {
  one_map = ∥∥₁_elim known (one_prop d) (λ (is : IsMapped d m). is.one_map);
  nets = ∥∥₁_elim known (nets_prop d) (λ (is : IsMapped d m). is.nets);
  mapped = known-map d m (∥∥₁_map known (λ (is : IsMapped d m). is.mapped));
}

-- ---- channels in flight
-- a row after which these channels are in flight: their valids and gates are up, and no ready is
abbrev pub flying : ℕ → List Bool → Row
flying n monitors =
    let up = mask_of (λ c. get_or monitors c false) n in
    record { fresh = false; gates = up; valids = up; readies = mask_of (λ c. false) n; contents = []; starts = 0; ends = 0 }

flies : (b : Bool) → b ≡ ((b && b) && not ((b && b) && false))
flies true = refl
flies false = refl

flies-so : (n : ℕ) (monitors : List Bool) (c : ℕ) → c < n → get_or monitors c false ≡ is_in_flight (flying n monitors) c
flies-so n monitors c l =
    let up = has-mask (λ k. get_or monitors k false) n c l in
    let down = has-mask (λ k. false) n c l in
    flies (get_or monitors c false) ∙ sym (λ i. (up i && up i) && not ((up i && up i) && down i))

pub flying-after : (n : ℕ) (monitors : List Bool) → length monitors ≡ n → AreMonitors n monitors (Some (flying n monitors))
flying-after n monitors many = record { many = many; each = flies-so n monitors }

-- ---- what is known of a block and its monitors, where some design runs
module _ (d : Design) (s : Values) (m : Map) (pins : List ℕ) (monitors : List Bool)
    (known : ∥ IsRunning (IsAround d s m pins monitors) ∥₁) where
  pub known-ready : IsMapped d m
  known-ready = known-mapped d m (∥∥₁_map known (λ (r : IsRunning (IsAround d s m pins monitors)).
      subst (λ f. IsMapped f m) (sym r.3.design_is) r.3.ready))

  pub known-held : AreHeld d m pins
  known-held = ∥∥₁_elim known (hlevel props) (λ (r : IsRunning (IsAround d s m pins monitors)).
      subst (λ f. AreHeld f m pins) (sym r.3.design_is) r.3.held)

  pub known-many : length monitors ≡ length m.channels
  known-many = ∥∥₁_elim known (hlevel props) (λ (r : IsRunning (IsAround d s m pins monitors)). r.3.flight.many)

-- where it runs on, it still runs some design
pub runs-on : (d e : Design) (s t : Values) (m : Map) (pins now : List ℕ) (monitors then : List Bool)
    → ((f : Design) (u : Values) (before : Option Row) → IsAround d s m pins monitors f u before
    → (v : Values) × (after : Option Row) × IsAround e t m now then f v after)
    → ∥ IsRunning (IsAround d s m pins monitors) ∥₁ → ∥ IsRunning (IsAround e t m now then) ∥₁
runs-on d e s t m pins now monitors then on known = ∥∥₁_map known (λ (r : IsRunning (IsAround d s m pins monitors)).
    (let n = on r.0 r.1 r.2 r.3 in (r.0, n.0, n.1, n.2)))

-- ---- a block with idle monitors
-- `pins` is as many zeros as there are pins, lent as `lent`, to which `now` is written
pub around-new : (d : Design) (s : Values) (m : Map) (pins lent now : List ℕ) (monitors : List Bool) → HasOneMap d → PortsAreNets d
    → IsMapOf d m → length pins ≡ length (entered m false silent) → lent ≡ pins → length now ≡ length lent
    → now ≡ write (replicate (length lent) 0) (held_inputs m false) → monitors ≡ replicate (length m.channels) false
    → IsAround d s m (refill (length pins) pins now) monitors d s None
around-new d s m pins lent now monitors one nets mapped count same long written idle = record {
  design_is = refl;
  state_is = refl;
  ready = record { one_map = one; nets = nets; mapped = mapped };
  held = subst (AreHeld d m) (sym (refill-is pins now (long ∙ ap length same)))
      (held-from d m silent now
      (held-pins d m mapped false (length lent) now (ap length same ∙ count ∙ pins-many d m mapped) written));
  flight = subst (λ k. AreMonitors (length m.channels) k None) (sym idle) (all-idle (length m.channels));
}

-- ---- the cycle's pins are entered
pub around-driven : (d e : Design) (s t : Values) (m : Map) (pins now : List ℕ) (monitors : List Bool) → e ≡ d → t ≡ s
    → length now ≡ length pins → AreHeld d m now → (f : Design) (u : Values) (before : Option Row)
    → IsAround d s m pins monitors f u before → IsAround e t m (refill (length pins) pins now) monitors f u before
around-driven d e s t m pins now monitors same still long held f u before is = record {
  design_is = same ∙ is.design_is;
  state_is = still ∙ is.state_is;
  ready = is.ready;
  held = subst (AreHeld f m) (sym (refill-is pins now long)) (held-of d f m now is.design_is held);
  flight = is.flight;
}

pub monitored : (n : ℕ) (monitors list : List Bool) → length monitors ≡ n → list ≡ monitors
    → AreMonitors n list (Some (flying n monitors))
monitored n monitors list many same = subst (λ k. AreMonitors n k (Some (flying n monitors))) (sym same) (flying-after n monitors many)

-- ---- a reset, after which no channel is in flight
idle-again : (n : ℕ) (monitors now : List Bool) → length monitors ≡ n → now ≡ replicate (length monitors) false
    → AreMonitors n (refill (length monitors) monitors now) None
idle-again n monitors now many idle =
    let still : refill (length monitors) monitors now ≡ now = refill-is monitors now (ap length idle ∙ (all-idle (length monitors)).many) in
    subst (λ k. AreMonitors n k None) (sym (still ∙ idle ∙ ap (λ k. replicate k false) many)) (all-idle n)

pub around-reset : (d e : Design) (s t : Values) (m : Map) (pins now : List ℕ) (monitors then : List Bool) → e ≡ d
    → length now ≡ length pins → AreHeld d m now → then ≡ replicate (length monitors) false
    → (f : Design) (u : Values) (before : Option Row) → IsAround d s m pins monitors f u before
    → IsAround e t m (refill (length pins) pins now) (refill (length monitors) monitors then) f t None
around-reset d e s t m pins now monitors then same long held idle f u before is = record {
  design_is = same ∙ is.design_is;
  state_is = refl;
  ready = is.ready;
  held = subst (AreHeld f m) (sym (refill-is pins now long)) (held-of d f m now is.design_is held);
  flight = idle-again (length m.channels) monitors then is.flight.many idle;
}

-- ---- a cycle's end, after which the channels are in flight that its row says
pub around-clocked : (d e : Design) (s t : Values) (m : Map) (pins : List ℕ) (monitors now : List Bool) (shown : Handshakes) (row : Row)
    → e ≡ d → length now ≡ length monitors → shown ≡ handshakes row
    → ((c : ℕ) → c < length now → get_or now c false ≡ stays (has shown.gates c) (has shown.valids c) (has shown.readies c))
    → (f : Design) (u : Values) (before : Option Row) → IsAround d s m pins monitors f u before
    → IsAround e t m pins (refill (length monitors) monitors now) f t (Some row)
around-clocked d e s t m pins monitors now shown row same long last each f u before is =
    let many : length now ≡ length m.channels = long ∙ is.flight.many in
    record {
      design_is = same ∙ is.design_is;
      state_is = refl;
      ready = is.ready;
      held = is.held;
      flight = subst (λ k. AreMonitors (length m.channels) k (Some row)) (sym (refill-is monitors now long)) (record {
        many = many;
        each = λ c l. subst (λ (h : Handshakes). get_or now c false ≡ stays (has h.gates c) (has h.valids c) (has h.readies c)) last
            (each c (omega (arith, l, many)));
      });
    }
