-- The ports of the top that the words of a map name.
use Rattle.std.specs.Prelude.{ℕ, ◌^◌, ◌==◌, ◌&&◌, not, nat_lt, Bool, true, false, if◌then◌else◌, List, [], ◌∷◌, ◌++◌, length, count_by}
use Rattle.std.specs.Prelude.{Option, Some, None, All}
use Rattle.std.specs.List.{list_any, list_all}
use Rattle.std.specs.Str.{bytes_eq}
use Rattle.trace_model.specs.declared.channel.Dir.{Dir}
use Rattle.trace_model.specs.declared.channel.Dir.TheVariants.{Inward, Outward}
use Rattle.net_design.specs.declared.design.Port.{Port}
use Rattle.net_design.specs.declared.design.Driver.{Driver}
use Rattle.net_design.specs.declared.design.Direction.{Direction}
use Rattle.net_design.specs.declared.design.Direction.TheVariants.{Input, Output}
use Rattle.net_design.specs.declared.design.Design.{Design}
use Rattle.vidi_lines.specs.vidi_bits.Number.{IsWidth}
use Rattle.net_design.specs.Settled.{same_direction}
use Rattle.net_design.specs.Bits.{named}
use Rattle.vidi_lines.specs.vidi_bits.Findings.{is_nil}
use Rattle.chan_map.specs.declared.sockets.Socket.{Socket}
use Rattle.chan_map.specs.declared.map_text.ChannelLine.{ChannelLine}
use Rattle.chan_map.specs.declared.map_text.Entry.{Entry}
use Rattle.chan_map.specs.declared.map_text.Entry.TheVariants.{Top, Clock, Tie, Reset, Ignore, Channel}

-- a port behind the ports before: its number among all, and its place among those of its direction, both from 0
abbrev pub socket : List Port → Port → Socket
socket before p = record {
  port = length before;
  direction = p.direction;
  place = count_by (λ (q : Port). same_direction p.direction q.direction) before;
  width = p.width;
}

-- the first port with this name among those that stand behind the ports before
abbrev pub socket_from : List Port → List Port → List ℕ → Option Socket
socket_from before [] name = None
socket_from before (p ∷ ports) name = if bytes_eq name p.name then Some (socket before p) else socket_from (before ++ p ∷ []) ports name

-- the port with this name
abbrev pub socket_named : List Port → List ℕ → Option Socket
socket_named ports name = socket_from [] ports name

-- ---- what a line asks of the ports that it names

-- a port of this direction
abbrev pub is_pin : Direction → Option Socket → Bool
is_pin d None = false
is_pin d (Some s) = same_direction d s.direction

-- and 1 bit wide
abbrev pub is_bit : Direction → Option Socket → Bool
is_bit d None = false
is_bit d (Some s) = same_direction d s.direction && (s.width == 1)

-- an input that the number fits
abbrev pub is_tied : ℕ → Option Socket → Bool
is_tied number None = false
is_tied number (Some s) = same_direction Input s.direction && nat_lt number (2 ^ s.width)

abbrev pub is_own_clock : Option ℕ → ℕ → Bool
is_own_clock None port = true
is_own_clock (Some clock) port = clock == port

-- a driver reads this port, which is 1 bit wide: port k is net k
abbrev pub is_read : Design → ℕ → Bool
is_read d port = list_any (λ (x : Driver). named x.code.reads port 0) d.drivers

-- the design has no other clock; and where it has no clocked block, no driver reads the port
abbrev pub is_clock_of : Design → Option Socket → Bool
is_clock_of d None = false
is_clock_of d (Some s) = is_own_clock d.clock s.port && not (is_nil d.blocks && is_read d s.port)

-- the direction of a channel's valid and contents, and that of its ready
abbrev pub source_side : Dir → Direction
source_side Inward = Input
source_side Outward = Output

abbrev pub sink_side : Dir → Direction
sink_side Inward = Output
sink_side Outward = Input

abbrev pub channel_fits : List Port → ChannelLine → Bool
channel_fits ports c = is_bit (source_side c.dir) (socket_named ports c.valid) && (is_bit (sink_side c.dir) (socket_named ports c.ready)
    && list_all (λ name. is_pin (source_side c.dir) (socket_named ports name)) c.contents)

-- M2 doesn't hold of a line that says this
abbrev pub line_fits : Design → Entry → Bool
line_fits d (Top name) = true
line_fits d (Clock port) = is_bit Input (socket_named d.ports port) && is_clock_of d (socket_named d.ports port)
line_fits d (Tie port number) = is_tied number (socket_named d.ports port)
line_fits d (Reset port active cycles) = is_bit Input (socket_named d.ports port)
line_fits d (Ignore port) = is_pin Output (socket_named d.ports port)
line_fits d (Channel c) = channel_fits d.ports c

-- ---- how often ports are named

-- the words of a line that name ports, in order
abbrev pub names_of : Entry → List (List ℕ)
names_of (Top name) = []
names_of (Clock port) = port ∷ []
names_of (Tie port number) = port ∷ []
names_of (Reset port active cycles) = port ∷ []
names_of (Ignore port) = port ∷ []
names_of (Channel c) = c.valid ∷ c.ready ∷ c.contents

abbrev pub is_port : ℕ → Option Socket → Bool
is_port k None = false
is_port k (Some s) = s.port == k

-- how many of the words name port k
abbrev pub times : List Port → List (List ℕ) → ℕ → ℕ
times ports words k = count_by (λ name. is_port k (socket_named ports name)) words

-- each port has 1 to 128 bits, as in a lawful design
abbrev pub HaveWidths : List Port → Type 0
HaveWidths ports = All (λ (p : Port). IsWidth p.width) ports
