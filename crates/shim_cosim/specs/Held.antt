-- The inputs of a top that are held: its clock, and the inputs for the reset and the ties, in port order.
use Rattle.std.specs.Prelude.{◌≡◌, ℕ, ◌+◌, Bool, true, false, List, ◌∷◌, ◌++◌, map, take, length, replicate}
use Rattle.std.specs.List.{flat_map}
use Rattle.std.specs.Option.{option_to_list}
use Rattle.vlog_tree.specs.Tree.{PortOf}
use Rattle.vlog_design.specs.vlog_size.Table.{Named, value_of}
use Rattle.replay_run.specs.chan_map.declared.pins.Map.{Map}
use Rattle.replay_run.specs.chan_map.declared.pins.Reset.{Reset}
use Rattle.replay_run.specs.chan_map.declared.pins.Tie.{Tie}
use Rattle.replay_run.specs.run_model.Pins.{reset_input}

-- the numbers of the reset, in a reset cycle or in another one, and of the ties, by name
abbrev pub reset_number : Bool → Reset → Named ℕ
reset_number resets r = record { name = r.pin.name; value = (reset_input resets r).number }

abbrev pub tie_number : Tie → Named ℕ
tie_number t = record { name = t.pin.name; value = t.number }

abbrev pub held_numbers : Map → Bool → List (Named ℕ)
held_numbers a resets = map (reset_number resets) (option_to_list a.reset) ++ map tie_number a.ties

-- that of a port of the design, where it is the reset or a tie
abbrev pub held_number : List (Named ℕ) → PortOf ℕ → List ℕ
held_number numbers p = option_to_list (value_of numbers p.id.name)

-- in port order, behind the clock
abbrev pub held_inputs : Map → Bool → List (PortOf ℕ) → List ℕ
held_inputs a resets ports = 0 ∷ flat_map (held_number (held_numbers a resets)) ports

-- The inputs of a top round a design with these ports: those that are held are the first ones of `pins`, and `count` others follow.
-- `resets` has those of a reset cycle, in which the others are 0.
pub record AreHeldPins (a : Map) (ports : List (PortOf ℕ)) (count first : ℕ) (pins resets : List ℕ) : Type 0 where
  pub held : take first pins ≡ held_inputs a false ports
  pub long : length pins ≡ first + count
  pub reset : resets ≡ held_inputs a true ports ++ replicate count 0
