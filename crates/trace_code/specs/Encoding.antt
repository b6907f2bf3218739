-- *Encoding*: the bytes of a trace, version 2, as a concatenation (this project's profile). All numbers are big-endian.
--
--   VIDITRC2 | channel count | channels | packets | 00, packet count (4 bytes)
--   a channel: direction (0 inward, 1 outward) | name length | name | port count | a width a port
--   a packet with events: 01 | gap (2 bytes) | start mask | end mask | contents of the starting channels
--   a reset: 02 | gap (2 bytes)
use Rattle.std.specs.Prelude.{◌≡◌, ℕ, ◌<◌, ◌^◌, List, [], ◌∷◌, ◌++◌, length, codes, if◌then◌else◌}
use Rattle.std.specs.List.{flat_map, zip}
use Rattle.std.specs.Int.{bytes_high_first, bytes_low_first}
use Rattle.vec_clock.specs.trace_model.declared.channel.Channel.{Channel}
use Rattle.vec_clock.specs.trace_model.declared.channel.Dir.{Dir}
use Rattle.vec_clock.specs.trace_model.declared.channel.Dir.TheVariants.{Inward, Outward}
use Rattle.vec_clock.specs.trace_model.declared.packet.Packet.{Packet}
use Rattle.vec_clock.specs.trace_model.declared.row.Row.{Row}
use Rattle.vec_clock.specs.trace_model.declared.trace.Trace.{Trace}
use Rattle.vec_clock.specs.trace_model.Channel.{byte_count, IsTable}
use Rattle.vec_clock.specs.trace_model.Length.{mask_len}
use Rattle.vec_clock.specs.trace_model.Packet.{widths_under}
use Rattle.vec_clock.specs.trace_model.Recording.{after_gap, has_event, packet_of, packets_from}
use Rattle.vec_clock.specs.trace_model.Trace.{IsWellFormed}

abbrev pub magic : List ℕ
magic = codes "VIDITRC2"

abbrev pub direction_byte : Dir → ℕ
direction_byte Inward = 0
direction_byte Outward = 1

abbrev pub channel_bytes : Channel → List ℕ
channel_bytes c = direction_byte c.dir ∷ length c.name ∷ (c.name ++ length c.widths ∷ c.widths)

-- channels behind a version's magic
abbrev pub table_bytes : List ℕ → List Channel → List ℕ
table_bytes begin channels = begin ++ length channels ∷ flat_map channel_bytes channels

abbrev pub header_bytes : List Channel → List ℕ
header_bytes channels = table_bytes magic channels

-- channel c is bit c mod 8, bit 0 the lowest, of byte c / 8; spare bits are those of the mask, 0
abbrev pub mask_bytes : ℕ → ℕ → List ℕ
mask_bytes n mask = bytes_low_first 0 (mask_len n) mask

-- each number in the bytes of its port's width, the highest byte first
abbrev pub number_bytes : List ℕ → List ℕ → List ℕ
number_bytes widths numbers = flat_map (λ (x : ℕ × ℕ). bytes_high_first (byte_count x.0) x.1) (zip widths numbers)

abbrev pub gap_bytes : ℕ → List ℕ
gap_bytes gap = bytes_high_first 2 gap

-- the masks of the starts and of the ends, and the contents of the starting channels
abbrev pub events_bytes : List Channel → ℕ → ℕ → List ℕ → List ℕ
events_bytes channels starts ends contents = mask_bytes (length channels) starts
    ++ (mask_bytes (length channels) ends ++ number_bytes (widths_under starts channels) contents)

abbrev pub packet_bytes : List Channel → Packet → List ℕ
packet_bytes channels p = if p.reset then 2 ∷ gap_bytes p.gap
    else 1 ∷ (gap_bytes p.gap ++ events_bytes channels p.starts p.ends p.contents)

-- the bytes of the packet of a row behind this gap, of which there are none where it has no event
abbrev pub row_bytes : List Channel → ℕ → Row → List ℕ
row_bytes channels gap row = if has_event row then packet_bytes channels (after_gap gap (packet_of channels row)) else []

-- the bytes of the packets of all rows
abbrev pub rows_bytes : List Channel → List Row → List ℕ
rows_bytes channels rows = flat_map (packet_bytes channels) (packets_from channels 0 0 rows)

abbrev pub end_mark : ℕ → List ℕ
end_mark packets = 0 ∷ bytes_high_first 4 packets

abbrev pub encode : Trace → List ℕ
encode t = header_bytes t.channels ++ (flat_map (packet_bytes t.channels) t.packets ++ end_mark (length t.packets))

-- the traces that have an encoding: a lawful header, a well-formed trace, and a count that fits its 4 bytes
pub record HasEncoding (t : Trace) : Type 0 where
  pub table : IsTable t.channels
  pub well_formed : IsWellFormed t
  pub few : length t.packets < 2 ^ 32

-- the bytes are the encoding of t
abbrev pub Encodes : Trace → List ℕ → Type 0
Encodes t bytes = HasEncoding t × (encode t ≡ bytes)
