-- A map of a design: what a bound map is, without the text that it was read from.
use Rattle.std.specs.Prelude.{◌≡◌, ◌≢◌, ℕ, ◌<◌, Some, IfSome, count_by}
use Rattle.std.specs.List.{AllByRecursion, AllPairs, AllZip}
use Rattle.chan_map.specs.trace_model.Channel.{IsTable}
use Rattle.net_design.specs.declared.design.Port.{Port}
use Rattle.net_design.specs.declared.design.Direction.{Direction}
use Rattle.net_design.specs.declared.design.Direction.TheVariants.{Input}
use Rattle.net_design.specs.declared.design.Design.{Design}
use Rattle.net_design.specs.Settled.{same_direction}
use Rattle.chan_map.specs.declared.pins.Map.{Map}
use Rattle.chan_map.specs.declared.pins.Reset.{Reset}
use Rattle.chan_map.specs.Bound.{IsPin, IsPlug, IsTie}
use Rattle.chan_map.specs.Places.{is_at, places}

-- Every pin is a port of the top, with its direction and width. Each input of the top is exactly one of the pins, and no two pins
-- are one port. Where the design has a clock, it is the map's.
pub record IsMapOf (d : Design) (m : Map) : Type 0 where
  pub table : IsTable m.channels
  pub plugs : AllZip (IsPlug d) m.channels m.plugs
  pub ties : AllByRecursion (IsTie d) m.ties
  pub reset : IfSome m.reset (λ (r : Reset). IsPin d Input 1 r.pin)
  pub clock : IsPin d Input 1 m.clock
  pub own_clock : (k : ℕ) → d.clock ≡ Some k → k ≡ clock.port
  pub inputs : (k : ℕ) → k < count_by (λ (q : Port). same_direction Input q.direction) d.ports → count_by (is_at Input k) (places m) ≡ 1
  pub differ : AllPairs (λ (a b : Direction × ℕ). a ≢ b) (places m)
