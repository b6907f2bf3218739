-- The map that lines and a design make (this project's profile).
use Rattle.std.specs.Prelude.{◌≡◌, ◌≢◌, ℕ, ◌^◌, ◌<◌, List, [], ◌∷◌, ◌++◌, map, take, length, count_by, slice_get, Option, Some, None}
use Rattle.std.specs.Prelude.{IfSome, Result, Ok, Err}
use Rattle.std.specs.List.{flat_map, AllZip, AllByRecursion, AllPairs}
use Rattle.std.specs.Option.{option_to_list}
use Rattle.trace_model.specs.declared.channel.Channel.{Channel as Row}
use Rattle.trace_model.specs.Channel.{IsTable}
use Rattle.net_design.specs.declared.design.Port.{Port}
use Rattle.net_design.specs.declared.design.Direction.{Direction}
use Rattle.net_design.specs.declared.design.Direction.TheVariants.{Input}
use Rattle.net_design.specs.declared.design.Design.{Design}
use Rattle.net_design.specs.Settled.{same_direction}
use Rattle.chan_map.specs.declared.error.MapError.{MapError}
use Rattle.chan_map.specs.declared.text.MapText.{MapText}
use Rattle.chan_map.specs.declared.pins.Map.{Map}
use Rattle.chan_map.specs.declared.sockets.Socket.{Socket}
use Rattle.chan_map.specs.declared.map_text.ChannelLine.{ChannelLine}
use Rattle.chan_map.specs.declared.map_text.Entry.{Entry}
use Rattle.chan_map.specs.declared.map_text.Entry.TheVariants as E
use Rattle.chan_map.specs.declared.map_text.MapLine.{MapLine}
use Rattle.chan_map.specs.declared.pins.Pin.{Pin}
use Rattle.chan_map.specs.declared.pins.Plug.{Plug}
use Rattle.chan_map.specs.declared.pins.Tie.{Tie}
use Rattle.chan_map.specs.declared.pins.Reset.{Reset}
use Rattle.chan_map.specs.Ports.{socket_named, source_side, sink_side, times}
use Rattle.chan_map.specs.Reasons.{port_faults, cover_faults, limit_faults, all_names}
use Rattle.vidi_lines.specs.vidi_bits.Findings.{IsFirst}
use Rattle.chan_map.specs.Told.{map_told}
use Rattle.chan_map.specs.Places.{is_at, places}

abbrev pub place_of : Option Socket → ℕ
place_of None = 0
place_of (Some s) = s.place

abbrev pub width_of : Option Socket → ℕ
width_of None = 0
width_of (Some s) = s.width

-- the pin and the width of the port with this name
abbrev pub pin_named : List Port → List ℕ → Pin
pin_named ports name = record { name = name; place = place_of (socket_named ports name) }

abbrev pub width_named : List Port → List ℕ → ℕ
width_named ports name = width_of (socket_named ports name)

abbrev pub row_of : List Port → ChannelLine → Row
row_of ports c = record { dir = c.dir; name = c.name; widths = map (width_named ports) c.contents }

abbrev pub plug_of : List Port → ChannelLine → Plug
plug_of ports c = record { valid = pin_named ports c.valid; ready = pin_named ports c.ready; contents = map (pin_named ports) c.contents }

abbrev pub tie_of : List Port → List ℕ → ℕ → Tie
tie_of ports port number = record { pin = pin_named ports port; width = width_named ports port; number = number }

-- what a line adds to the channel table, the plugs, the ties and the resets
abbrev pub rows_of : List Port → Entry → List Row
rows_of ports (E.Channel c) = row_of ports c ∷ []
rows_of ports entry = []

abbrev pub plugs_of : List Port → Entry → List Plug
plugs_of ports (E.Channel c) = plug_of ports c ∷ []
plugs_of ports entry = []

abbrev pub ties_of : List Port → Entry → List Tie
ties_of ports (E.Tie port number) = tie_of ports port number ∷ []
ties_of ports entry = []

abbrev pub resets_of : List Port → Entry → List Reset
resets_of ports (E.Reset port active cycles) = record { pin = pin_named ports port; active = active; cycles = cycles } ∷ []
resets_of ports entry = []

-- the last of a list, or what was there
abbrev pub later : {A : Type 0} → Option A → List A → Option A
later before [] = before
later before (x ∷ xs) = later (Some x) xs

-- ---- what a bound map is, beside what its lines say

-- the pin is that of a port of this direction and width, and counts the ports of its direction before it
pub record IsPin (d : Design) (direction : Direction) (width : ℕ) (pin : Pin) : Type 0 where
  pub port : ℕ
  pub p : Port
  pub at : slice_get d.ports port ≡ Some p
  pub name : p.name ≡ pin.name
  pub direction_is : p.direction ≡ direction
  pub width_is : p.width ≡ width
  pub place : pin.place ≡ count_by (λ (q : Port). same_direction direction q.direction) (take port d.ports)

-- valid and ready have 1 bit, and each content port its width in the table
pub record IsPlug (d : Design) (row : Row) (plug : Plug) : Type 0 where
  pub valid : IsPin d (source_side row.dir) 1 plug.valid
  pub ready : IsPin d (sink_side row.dir) 1 plug.ready
  pub contents : AllZip (λ width pin. IsPin d (source_side row.dir) width pin) row.widths plug.contents

-- an input that the number fits
pub record IsTie (d : Design) (tie : Tie) : Type 0 where
  pub pin : IsPin d Input tie.width tie.pin
  pub fits : tie.number < 2 ^ tie.width

-- M2 to M4, one after the other
abbrev pub table_of : Design → List MapLine → List Row
table_of d lines = flat_map (λ (l : MapLine). rows_of d.ports l.entry) lines

abbrev pub map_faults : Design → List MapLine → List MapError
map_faults d lines = port_faults d lines ++ (cover_faults d lines ++ limit_faults (table_of d lines))

pub record IsBound (text : MapText) (d : Design) (map : Map) : Type 0 where
  -- the map has what the lines say, in their order
  pub top : map.top ≡ text.top
  pub channels : map.channels ≡ table_of d text.lines
  pub plugs : map.plugs ≡ flat_map (λ (l : MapLine). plugs_of d.ports l.entry) text.lines
  pub ties : map.ties ≡ flat_map (λ (l : MapLine). ties_of d.ports l.entry) text.lines
  pub reset : option_to_list map.reset ≡ flat_map (λ (l : MapLine). resets_of d.ports l.entry) text.lines
  pub clock : map.clock ≡ pin_named d.ports text.clock
  -- one plug for each channel, and every pin is a port's
  pub plugs_fit : AllZip (IsPlug d) map.channels map.plugs
  pub ties_fit : AllByRecursion (IsTie d) map.ties
  pub reset_fits : IfSome map.reset (λ (r : Reset). IsPin d Input 1 r.pin)
  pub clock_fits : IsPin d Input 1 map.clock
  -- the table is that of a lawful header
  pub table : IsTable map.channels
  -- each port of the top is named exactly once
  pub once : (k : ℕ) → k < length d.ports → times d.ports (all_names text.lines) k ≡ 1
  -- so each input of the top is exactly one of the pins, and no two pins are one port
  pub inputs : (k : ℕ) → k < count_by (λ (q : Port). same_direction Input q.direction) d.ports → count_by (is_at Input k) (places map) ≡ 1
  pub differ : AllPairs (λ (a b : Direction × ℕ). a ≢ b) (places map)

-- a bound map exactly where nothing is found, else the first finding; want of memory is free
abbrev pub BindsMap : MapText → Design → Result Map MapError → Type 0
BindsMap text d (Ok map) = (map_faults d text.lines ≡ []) × IsBound text d map
BindsMap text d (Err error) = IsFirst map_told (map_faults d text.lines) error
