-- What monitors round a block stand for.
use Rattle.std.specs.Prelude.{◌≡◌, ℕ, ◌<◌, ◌∷◌, Bool, false, List, Option, Some, All, length, slice_index, slice_index_or}
use Rattle.run_model.specs.trace_model.declared.row.Row.{Row}
use Rattle.run_model.specs.trace_model.Row.{flies_after}
use Rattle.net_design.specs.declared.design.Design.{Design}
use Rattle.net_design.specs.declared.values.Values.{Values}
use Rattle.net_design.specs.Pins.{input_limits, outputs}
use Rattle.net_design.specs.Settled.{IsSettled}
use Rattle.run_model.specs.chan_map.declared.pins.Map.{Map}
use Rattle.run_model.specs.declared.pins.PinNumber.{PinNumber}
use Rattle.run_model.specs.Pins.{pin_number, ArePins}
use Rattle.run_model.specs.Step.{Shows}
use Rattle.chan_monitor.specs.declared.rows.Handshakes.{Handshakes}
use Rattle.chan_monitor.specs.Shell.{IsMapped}
use Rattle.chan_monitor.specs.Entering.{held_inputs}

-- the clock, the reset and the ties
abbrev pub fixed : Map → Bool → List PinNumber
fixed m resets = pin_number m.clock.place 0 ∷ held_inputs m resets

-- one number for each input, and the fixed ones of a cycle that is no reset cycle
pub record AreHeld (d : Design) (m : Map) (pins : List ℕ) : Type 0 where
  pub long : length pins ≡ length (input_limits d)
  pub numbers : All (λ (e : PinNumber). slice_index pins e.place ≡ e.number) (fixed m false)

-- one monitor for each of n channels, which says whether the channel is in flight after the row before
pub record AreMonitors (n : ℕ) (monitors : List Bool) (before : Option Row) : Type 0 where
  pub many : length monitors ≡ n
  pub each : (c : ℕ) → c < n → slice_index_or monitors c false ≡ flies_after before c

-- a block, a map, pins and monitors run design d, in state s, after the row before
pub record IsAround (design : Design) (state : Values) (m : Map) (pins : List ℕ) (monitors : List Bool)
    (d : Design) (s : Values) (before : Option Row) : Type 0 where
  pub design_is : design ≡ d
  pub state_is : state ≡ s
  pub ready : IsMapped d m
  pub held : AreHeld d m pins
  pub flight : AreMonitors (length m.channels) monitors before

-- the masks of a row
abbrev pub handshakes : Row → Handshakes
handshakes row = record { gates = row.gates; valids = row.valids; readies = row.readies }

-- the block is settled, at its last inputs, with what the row shows
pub record IsDriven (design : Design) (state : Values) (inputs : List ℕ) (v : Values) (m : Map) (last : Option Handshakes) (row : Row)
    : Type 0 where
  pub entered : ArePins design m false row inputs
  pub settled : IsSettled design state inputs v
  pub shows : Shows (outputs design v) m row
  pub last_is : last ≡ Some (handshakes row)
