-- What a shell promises of a cycle: *IsRun* of one row.
use Rattle.std.specs.Prelude.{◌≡◌, ℕ, List, Option, length}
use Rattle.run_model.specs.trace_model.declared.channel.Channel.{Channel}
use Rattle.run_model.specs.trace_model.declared.row.Offers.{Offers}
use Rattle.run_model.specs.trace_model.declared.row.Row.{Row}
use Rattle.run_model.specs.trace_model.Row.{all_widths, IsMarked, IsOver}
use Rattle.net_design.specs.declared.design.Design.{Design}
use Rattle.net_design.specs.declared.values.Values.{Values}
use Rattle.run_model.specs.chan_map.declared.pins.Map.{Map}
use Rattle.net_design.specs.Pins.{HasOneMap}
use Rattle.run_model.specs.Building.{PortsAreNets}
use Rattle.run_model.specs.MapOf.{IsMapOf}
use Rattle.run_model.specs.Offers.{Carries}
use Rattle.run_model.specs.Step.{IsStep}

-- the design settles in one way, its port k is net k, and the map is a map of it
pub record IsMapped (d : Design) (m : Map) : Type 0 where
  pub one_map : HasOneMap d
  pub nets : PortsAreNets d
  pub mapped : IsMapOf d m

-- a shell runs some design, in some state, after some row
abbrev pub IsRunning : (Design → Values → Option Row → Type 0) → Type 0
IsRunning runs = (d : Design) × (s : Values) × (before : Option Row) × runs d s before

-- a row with a place for the number of each port
abbrev pub HasPlaces : List Channel → Row → Type 0
HasPlaces channels row = length row.contents ≡ length (all_widths channels)

-- the row of a cycle that begins in state s after the row `before`, with these offers and gates
pub record IsShown (d : Design) (m : Map) (s : Values) (before : Option Row) (offers : Offers) (gates : ℕ) (row : Row) : Type 0 where
  pub over : IsOver m.channels row
  pub marked : IsMarked before row
  pub carries : Carries m.channels offers row
  pub gates_are : row.gates ≡ gates
  pub after : Values
  pub step : IsStep d m s row after
