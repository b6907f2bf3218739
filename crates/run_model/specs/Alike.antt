-- Designs that no map and no run can tell apart.
use Rattle.std.specs.Prelude.{◌≡◌, ℕ, ◌↔◌, List}
use Rattle.chan_map.specs.vidi_bits.Findings.{is_nil}
use Rattle.net_design.specs.declared.design.Design.{Design}
use Rattle.net_design.specs.declared.values.Values.{Values}
use Rattle.net_design.specs.Settled.{IsSettled, initial, next}
use Rattle.net_design.specs.Lawful.{IsState}
use Rattle.chan_map.specs.Ports.{is_read}

-- They have the same ports and the same clock, both have clocked blocks or neither, and the same ports are read by drivers. They have
-- the same states; in each state the same maps are settled, the same state comes next, and both begin in the same one.
pub record AreAlike (d e : Design) : Type 0 where
  pub ports : d.ports ≡ e.ports
  pub clock : d.clock ≡ e.clock
  pub unclocked : is_nil d.blocks ≡ is_nil e.blocks
  pub read : (port : ℕ) → is_read d port ≡ is_read e port
  pub states : (s : Values) → IsState d s ↔ IsState e s
  pub settled : (s v : Values) (pins : List ℕ) → IsState d s → IsSettled d s pins v ↔ IsSettled e s pins v
  pub next : (s v : Values) → next d v s ≡ next e v s
  pub initial : initial d ≡ initial e
