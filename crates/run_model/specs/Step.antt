-- One cycle of a design behind the gates: the row that a state shows, and the state after it; and the state in which row 0 begins.
use Rattle.std.specs.Prelude.{◌≡◌, ℕ, zero, suc, ◌==◌, true, false, Option, Some, None, List, map, slice_get, slice_index}
use Rattle.chan_map.specs.vidi_bits.Number.{has}
use Rattle.chan_map.specs.trace_model.declared.channel.Channel.{Channel}
use Rattle.chan_map.specs.trace_model.declared.channel.Dir.{Dir}
use Rattle.chan_map.specs.trace_model.declared.channel.Dir.TheVariants.{Inward, Outward}
use Rattle.chan_map.specs.trace_model.declared.row.Row.{Row}
use Rattle.chan_map.specs.trace_model.Row.{content_at}
use Rattle.net_design.specs.declared.design.Design.{Design}
use Rattle.net_design.specs.declared.values.Values.{Values}
use Rattle.net_design.specs.Settled.{IsSettled, initial, next}
use Rattle.net_design.specs.Pins.{outputs}
use Rattle.chan_map.specs.declared.pins.Map.{Map}
use Rattle.chan_map.specs.declared.pins.Pin.{Pin}
use Rattle.chan_map.specs.declared.pins.Plug.{Plug}
use Rattle.chan_map.specs.declared.pins.Reset.{Reset}
use Rattle.run_model.specs.Pins.{ArePins, silent}

-- `out` has the numbers of the output ports. Inward: channel c has the ready that is there; outward: its valid and its content.
abbrev pub ShowsPlug : List ℕ → List Channel → Row → ℕ → Dir → Plug → Type 0
ShowsPlug out channels row c Inward plug = has row.readies c ≡ (slice_index out plug.ready.place == 1)
ShowsPlug out channels row c Outward plug = (has row.valids c ≡ (slice_index out plug.valid.place == 1))
    × (content_at channels row.contents c ≡ map (λ (p : Pin). slice_index out p.place) plug.contents)

-- the design's part of a row is what these outputs show
abbrev pub Shows : List ℕ → Map → Row → Type 0
Shows out m row = (c : ℕ) (channel : Channel) (plug : Plug) → slice_get m.channels c ≡ Some channel → slice_get m.plugs c ≡ Some plug
    → ShowsPlug out m.channels row c channel.dir plug

-- *IsRun* of one row: in state s, with this row's pins, the design shows its part of the row, and the state after it is `after`
pub record IsStep (d : Design) (m : Map) (s : Values) (row : Row) (after : Values) : Type 0 where
  pub pins : List ℕ
  pub v : Values
  pub entered : ArePins d m false row pins
  pub settled : IsSettled d s pins v
  pub shown : Shows (outputs d v) m row
  pub next : after ≡ next d v s

-- the state after one cycle with these pins
pub record IsNext (d : Design) (pins : List ℕ) (s after : Values) : Type 0 where
  pub v : Values
  pub settled : IsSettled d s pins v
  pub next : after ≡ next d v s

-- the state after n cycles with these pins
abbrev pub IsAfter : Design → List ℕ → ℕ → Values → Values → Type 0
IsAfter d pins zero s after = after ≡ s
IsAfter d pins (suc n) s after = (between : Values) × IsAfter d pins n s between × IsNext d pins between after

-- the initial state after the reset cycles, in which the reset is active and all other pins but the ties are 0
abbrev pub IsAfterReset : Design → Map → Option Reset → Values → Type 0
IsAfterReset d m None s = s ≡ initial d
IsAfterReset d m (Some r) s = (pins : List ℕ) × ArePins d m true silent pins × IsAfter d pins r.cycles (initial d) s

-- s_0, in which row 0 begins
abbrev pub IsFirst : Design → Map → Values → Type 0
IsFirst d m s = IsAfterReset d m m.reset s
