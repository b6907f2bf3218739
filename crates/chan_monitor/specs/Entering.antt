-- Numbers that are entered at the input pins, one after the other.
use Rattle.std.specs.Prelude.{◌≡◌, ℕ, ◌+◌, ◌<◌, Bool, false, List, [], ◌∷◌, ◌++◌, Some, All, length, map, slice_get, slice_set}
use Rattle.std.specs.List.{enumerate_from}
use Rattle.std.specs.Option.{option_to_list}
use Rattle.run_model.specs.vidi_bits.Number.{truth}
use Rattle.run_model.specs.trace_model.declared.channel.Channel.{Channel}
use Rattle.run_model.specs.trace_model.declared.channel.Dir.{Dir}
use Rattle.run_model.specs.trace_model.declared.channel.Dir.TheVariants.{Inward, Outward}
use Rattle.run_model.specs.trace_model.declared.row.Offers.{Offers}
use Rattle.run_model.specs.trace_model.declared.row.Row.{Row}
use Rattle.run_model.specs.chan_map.declared.pins.Map.{Map}
use Rattle.run_model.specs.chan_map.declared.pins.Pin.{Pin}
use Rattle.run_model.specs.chan_map.declared.pins.Plug.{Plug}
use Rattle.run_model.specs.chan_map.declared.pins.Tie.{Tie}
use Rattle.run_model.specs.declared.pins.PinNumber.{PinNumber}
use Rattle.run_model.specs.Pins.{pin_number, shown_number, inward_inputs, reset_input, tie_input}
use Rattle.chan_monitor.specs.declared.monitor.Passed.{Passed}

-- each number at its pin, in order
abbrev pub write : List ℕ → List PinNumber → List ℕ
write pins [] = pins
write pins (e ∷ es) = write (slice_set pins e.place e.number) es

-- the numbers of a content at its pins, while they are shown, else 0
abbrev pub content_inputs : List Pin → Bool → List ℕ → List PinNumber
content_inputs pins shown content = map (λ (p : ℕ × Pin). pin_number p.1.place (shown_number shown content p.0)) (enumerate_from 0 pins)

-- what a monitor lets pass, at the input pins of its channel
abbrev pub passed_inputs : Dir → Plug → Passed → List ℕ → List PinNumber
passed_inputs Inward plug p content = inward_inputs plug p.sink_valid content
passed_inputs Outward plug p content = pin_number plug.ready.place (truth p.source_ready) ∷ []

-- the reset and the ties
abbrev pub held_inputs : Map → Bool → List PinNumber
held_inputs m resets = map (reset_input resets) (option_to_list m.reset) ++ map tie_input m.ties

-- offers and gates as a row, before the design shows its part
abbrev pub offered : ℕ → Offers → Row
offered gates offers = record {
  fresh = false;
  gates = gates;
  valids = offers.valids;
  readies = offers.readies;
  contents = offers.contents;
  starts = 0;
  ends = 0;
}

-- ---- places below n
abbrev pub IsPlugWithin : ℕ → Dir → Plug → Type 0
IsPlugWithin n Inward plug = (plug.valid.place < n) × All (λ (p : Pin). p.place < n) plug.contents
IsPlugWithin n Outward plug = plug.ready.place < n

abbrev pub AreTiesWithin : ℕ → List Tie → Type 0
AreTiesWithin n ties = All (λ (t : Tie). t.pin.place < n) ties

pub record ArePlugsWithin (n : ℕ) (channels : List Channel) (plugs : List Plug) : Type 0 where
  pub many : length plugs ≡ length channels
  pub each : (c : ℕ) (x : Channel) (plug : Plug) → slice_get channels c ≡ Some x → slice_get plugs c ≡ Some plug
      → IsPlugWithin n x.dir plug × (length plug.contents ≡ length x.widths)

-- ---- how many input pins there are
abbrev pub input_count : Dir → Plug → ℕ
input_count Inward plug = 1 + length plug.contents
input_count Outward plug = 1

abbrev pub inputs_count : List Channel → List Plug → ℕ
inputs_count (x ∷ xs) (plug ∷ plugs) = input_count x.dir plug + inputs_count xs plugs
inputs_count xs plugs = 0
