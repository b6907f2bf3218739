-- What a cycle enters at the input pins of the top, by the row that the channels show (this project's profile).
use Rattle.std.specs.Prelude.{◌≡◌, ℕ, ◌+◌, ◌&&◌, Bool, not, if◌then◌else◌, List, [], ◌∷◌, ◌++◌, All, map, slice_index, false}
use Rattle.std.specs.List.{enumerate_from}
use Rattle.std.specs.Option.{option_to_list}
use Rattle.chan_map.specs.vidi_bits.Number.{truth, has}
use Rattle.chan_map.specs.trace_model.declared.channel.Channel.{Channel}
use Rattle.chan_map.specs.trace_model.declared.channel.Dir.{Dir}
use Rattle.chan_map.specs.trace_model.declared.channel.Dir.TheVariants.{Inward, Outward}
use Rattle.chan_map.specs.trace_model.declared.row.Row.{Row}
use Rattle.chan_map.specs.trace_model.Row.{content_at, sink_valid}
use Rattle.net_design.specs.declared.design.Design.{Design}
use Rattle.net_design.specs.Pins.{FitPins}
use Rattle.chan_map.specs.declared.pins.Map.{Map}
use Rattle.chan_map.specs.declared.pins.Pin.{Pin}
use Rattle.chan_map.specs.declared.pins.Plug.{Plug}
use Rattle.chan_map.specs.declared.pins.Reset.{Reset}
use Rattle.chan_map.specs.declared.pins.Tie.{Tie}
use Rattle.run_model.specs.declared.pins.PinNumber.{PinNumber}

abbrev pub pin_number : ℕ → ℕ → PinNumber
pin_number place number = record { place = place; number = number }

-- number i of a content, while the valid that the sink sees is up, else 0
abbrev pub shown_number : Bool → List ℕ → ℕ → ℕ
shown_number valid content i = if valid then slice_index content i else 0

-- the valid of an inward channel, and its contents
abbrev pub inward_inputs : Plug → Bool → List ℕ → List PinNumber
inward_inputs plug valid content = pin_number plug.valid.place (truth valid)
    ∷ map (λ (p : ℕ × Pin). pin_number p.1.place (shown_number valid content p.0)) (enumerate_from 0 plug.contents)

-- The pins of channel c that are inputs of the top. Inward: the valid that the sink sees behind the gate, and the content while it
-- is up. Outward: the ready that the source sees behind the gate.
abbrev pub plug_inputs : List Channel → Row → ℕ → Dir → Plug → List PinNumber
plug_inputs channels row c Inward plug = inward_inputs plug (sink_valid row c) (content_at channels row.contents c)
plug_inputs channels row c Outward plug = pin_number plug.ready.place (truth (has row.readies c && has row.gates c)) ∷ []

-- those of the channels from c on, with their plugs
abbrev pub inputs_from : List Channel → Row → ℕ → List Channel → List Plug → List PinNumber
inputs_from channels row c (x ∷ xs) (plug ∷ plugs) = plug_inputs channels row c x.dir plug ++ inputs_from channels row (c + 1) xs plugs
inputs_from channels row c xs plugs = []

-- the reset pin has its active value in a reset cycle, else the other one
abbrev pub reset_input : Bool → Reset → PinNumber
reset_input resets r = pin_number r.pin.place (truth (if resets then r.active else not r.active))

abbrev pub tie_input : Tie → PinNumber
tie_input t = pin_number t.pin.place t.number

-- each input pin with its number: the clock, the reset, the ties and the channels
abbrev pub entered : Map → Bool → Row → List PinNumber
entered m resets row = pin_number m.clock.place 0
    ∷ (map (reset_input resets) (option_to_list m.reset) ++ (map tie_input m.ties ++ inputs_from m.channels row 0 m.channels m.plugs))

-- the numbers of the input ports, in port order, in a cycle with this row
pub record ArePins (d : Design) (m : Map) (resets : Bool) (row : Row) (pins : List ℕ) : Type 0 where
  pub fit : FitPins d pins
  pub numbers : All (λ (p : PinNumber). slice_index pins p.place ≡ p.number) (entered m resets row)

-- a row of which nothing is up
abbrev pub silent : Row
silent = record { fresh = false; gates = 0; valids = 0; readies = 0; contents = []; starts = 0; ends = 0 }
