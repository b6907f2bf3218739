-- A bound map is a map of its design.
use Rattle.std.proofs.Common.{◌≡◌, ℕ, ◌==◌, true, List, Option, Some, None, take}
use Rattle.std.proofs.Common.{count_by, refl, ap, sym, ◌∙◌}
use Rattle.std.proofs.lemmas.Bool.{false≢true, and_parts, eqb-true}
use Rattle.chan_map.proofs.trace_model_lemmas.CountingLemmas.{nth-unique}
use Rattle.net_design.specs.declared.design.Port.{Port}
use Rattle.net_design.specs.declared.design.Direction.{Direction}
use Rattle.net_design.specs.declared.design.Direction.TheVariants.{Input}
use Rattle.net_design.specs.declared.design.Design.{Design}
use Rattle.net_design.specs.Settled.{same_direction}
use Rattle.chan_map.specs.declared.pins.Pin.{Pin}
use Rattle.chan_map.specs.declared.sockets.Socket.{Socket}
use Rattle.chan_map.specs.Bound.{place_of, pin_named, IsPin}
use Rattle.chan_map.specs.Ports.{socket_named, is_bit, is_own_clock, is_clock_of}
use Rattle.chan_map.specs.Reasons.{port_faults}
use Rattle.chan_map.proofs.Fitting.{clock_fits, lines_fit, no_left}
use Rattle.chan_map.proofs.Found.{socket_is, same}
use Rattle.run_model.specs.Laws.{BoundIsMapOf}
use Rattle.run_model.proofs.PinLemmas.{ways}

own : (o : Option ℕ) (port k : ℕ) → is_own_clock o port ≡ true → o ≡ Some k → k ≡ port
own None port k h e = absurd (cc)
own (Some c) port k h e = let same-clock : c ≡ k = cc in sym same-clock ∙ eqb-true c port h

module _ (d : Design) (name : List ℕ) (pin : Pin) (pin-is : pin ≡ pin_named d.ports name) (is : IsPin d Input 1 pin) (k : ℕ)
    (clock : d.clock ≡ Some k) where
  -- the socket that the clock's word names is that of the pin's port
  at-socket : (o : Option Socket) → socket_named d.ports name ≡ o → is_bit Input o ≡ true → is_clock_of d o ≡ true → k ≡ is.port
  at-socket None found bit own-it = absurd (false≢true bit)
  at-socket (Some s) found bit own-it =
      let socket = socket_is d.ports name s found in
      let parts = and_parts (same_direction Input s.direction) (s.width == 1) bit in
      let way : s.direction ≡ Input = same Input s.direction parts.0 in
      let direction : socket.p.direction ≡ s.direction = ap (λ (t : Socket). t.direction) (sym socket.is) in
      let passes : same_direction Input socket.p.direction ≡ true = ways Input socket.p (direction ∙ way) in
      let mine = (and_parts (is_own_clock d.clock s.port) _ own-it).0 in
      let place : s.place ≡ count_by (λ (q : Port). same_direction Input q.direction) (take s.port d.ports) =
      ap (λ (t : Socket). t.place) socket.is
      ∙ ap (λ (e : Direction). count_by (λ (q : Port). same_direction e q.direction) (take s.port d.ports)) (direction ∙ way) in
      let pin-place : pin.place ≡ s.place = ap (λ (p : Pin). p.place) pin-is ∙ ap place_of found in
      let one = nth-unique (λ (q : Port). same_direction Input q.direction) d.ports pin.place is.port s.port is.p socket.p
      (record { at = is.at; passes = ways Input is.p is.direction_is; before = sym is.place })
      (record { at = socket.at; passes = passes; before = sym (pin-place ∙ place) }) in
      own d.clock s.port k mine clock ∙ sym one.0

pub bound-is_map_of : BoundIsMapOf
bound-is_map_of text d m h =
    let bound = h.1 in
    let fits = lines_fit d text.lines (no_left (port_faults d text.lines) _ h.0) in
    let line = clock_fits d text.lines text.clock fits text.one_clock in
    let both = and_parts (is_bit Input (socket_named d.ports text.clock)) (is_clock_of d (socket_named d.ports text.clock)) line in
    record {
      table = bound.table;
      plugs = bound.plugs_fit;
      ties = bound.ties_fit;
      reset = bound.reset_fits;
      clock = bound.clock_fits;
      own_clock = λ k e. at-socket d text.clock m.clock bound.clock bound.clock_fits k e
          (socket_named d.ports text.clock) refl both.0 both.1;
      inputs = bound.inputs;
      differ = bound.differ;
    }
