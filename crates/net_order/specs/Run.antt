-- A map made by evaluating drivers once each, in an order.
use Rattle.std.specs.Prelude.{ℕ, zero, suc, Bool, List, [], ◌∷◌, drop, slice_index, if◌then◌else◌}
use Rattle.net_design.specs.declared.act.Act.{Act}
use Rattle.net_design.specs.declared.design.Driver.{Driver}
use Rattle.net_design.specs.declared.design.Port.{Port}
use Rattle.net_design.specs.declared.design.Direction.TheVariants.{Input}
use Rattle.net_design.specs.declared.design.Design.{Design}
use Rattle.net_design.specs.declared.values.Values.{Values}
use Rattle.net_design.specs.Updates.{run}
use Rattle.net_design.specs.Settled.{same_direction}

-- what driver i does; past the last driver nothing
abbrev pub acts_of : List Driver → ℕ → List Act
acts_of [] i = []
acts_of (x ∷ rest) zero = x.code.acts
acts_of (x ∷ rest) (suc i) = acts_of rest i

-- v after drivers were run one after the other
abbrev pub run_all : List Driver → List ℕ → Values → Values
run_all drivers [] v = v
run_all drivers (i ∷ order) v = run_all drivers order (run (acts_of drivers i) v)

abbrev pub enters : Port → Bool
enters p = same_direction Input p.direction

-- the nets with the numbers of the input pins, in port order: port k is net k
abbrev pub entered : List Port → List ℕ → List ℕ → List ℕ
entered [] pins nets = nets
entered (p ∷ ports) pins [] = []
entered (p ∷ ports) pins (x ∷ nets) =
    (if enters p then slice_index pins 0 else x) ∷ entered ports (if enters p then drop 1 pins else pins) nets

-- the state, with the numbers of the input pins at the input nets
abbrev pub start : Design → Values → List ℕ → Values
start d s pins = record { nets = entered d.ports pins s.nets; words = s.words }

-- what the state and the pins settle to, where the drivers are run in an order
abbrev pub settled_by : Design → List ℕ → Values → List ℕ → Values
settled_by d order s pins = run_all d.drivers order (start d s pins)
