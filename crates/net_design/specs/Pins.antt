-- What is entered at the input ports, and the designs that settle in one way.
use Rattle.std.specs.Prelude.{◌≡◌, ℕ, ◌^◌, ◌<◌, ◌==◌, Bool, true, false, Option, None, Some, if◌then◌else◌}
use Rattle.std.specs.Prelude.{List, map, replicate, length, slice_index}
use Rattle.std.specs.List.{count_by, enumerate_from}
use Rattle.net_design.specs.declared.design.Port.{Port}
use Rattle.net_design.specs.declared.design.Direction.TheVariants.{Input, Output}
use Rattle.net_design.specs.declared.design.Design.{Design}
use Rattle.net_design.specs.declared.values.Values.{Values}
use Rattle.net_design.specs.Settled.{same_direction, pins_of, IsSettled}
use Rattle.net_design.specs.Lawful.{IsState}

-- port k is the clock
abbrev pub is_clock : Option ℕ → ℕ → Bool
is_clock None k = false
is_clock (Some c) k = c == k

-- what the number of each port is below: 2 to the power of its width, and 1 for the clock, which is 0 while the design settles
abbrev pub port_limits : Design → List ℕ
port_limits d = map (λ (p : ℕ × Port). if is_clock d.clock p.0 then 1 else 2 ^ p.1.width) (enumerate_from 0 d.ports)

abbrev pub input_limits : Design → List ℕ
input_limits d = pins_of Input d.ports (port_limits d)

-- one number for each input port, in port order, which fits it; the clock's is 0
pub record FitPins (d : Design) (pins : List ℕ) : Type 0 where
  pub long : length pins ≡ length (input_limits d)
  pub each : (j : ℕ) → j < length pins → slice_index pins j < slice_index (input_limits d) j

-- 0 at each input port
abbrev pub no_pins : Design → List ℕ
no_pins d = replicate (length (input_limits d)) 0

abbrev pub output_count : Design → ℕ
output_count d = count_by (λ (p : Port). same_direction Output p.direction) d.ports

-- the numbers of the output ports, in port order
abbrev pub outputs : Design → Values → List ℕ
outputs d v = pins_of Output d.ports v.nets

-- exactly one settled map for each state and all fitting inputs
pub record HasOneMap (d : Design) : Type 0 where
  pub some : (s : Values) (pins : List ℕ) → IsState d s → FitPins d pins → ∥ ((v : Values) × IsSettled d s pins v) ∥₁
  pub only : (s : Values) (pins : List ℕ) (u v : Values) → IsState d s → FitPins d pins → IsSettled d s pins u → IsSettled d s pins v → u
      ≡ v
