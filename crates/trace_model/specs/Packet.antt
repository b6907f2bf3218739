-- What one packet records: the starts and the ends of a cycle, and the contents of the starts.
use Rattle.std.specs.Prelude.{◌≡◌, ℕ, ◌<◌, ◌^◌, ◌==◌, ◌&&◌, Bool, false, List, [], Option, Some, None, take, drop, length, slice_get, count_by}
use Rattle.std.specs.Prelude.{if◌then◌else◌}
use Rattle.std.specs.List.{AllZip, flat_map, enumerate_from}
use Rattle.vidi_bits.specs.Number.{has}
use Rattle.trace_model.specs.declared.channel.Channel.{Channel}
use Rattle.trace_model.specs.declared.event.Kind.{Kind}
use Rattle.trace_model.specs.declared.event.Kind.TheVariants.{Start, End, Reset}
use Rattle.trace_model.specs.declared.packet.Packet.{Packet}
use Rattle.trace_model.specs.declared.packet.TheConstants.{GAP_LIMIT}

-- whether a packet has a start, or an end, of channel c; or whether it is a reset, which is no channel's
abbrev pub does : Kind → ℕ → Packet → Bool
does Start c p = has p.starts c
does End c p = has p.ends c
does Reset c p = p.reset

-- how many of these packets have one
abbrev pub count : Kind → ℕ → List Packet → ℕ
count kind c packets = count_by (does kind c) packets

abbrev pub widths_of : Option Channel → List ℕ
widths_of (Some c) = c.widths
widths_of None = []

-- the widths of the ports of the channels that a mask names, in channel order and then in port order
abbrev pub widths_under : ℕ → List Channel → List ℕ
widths_under mask channels = flat_map (λ (c : ℕ × Channel). if has mask c.0 then c.1.widths else []) (enumerate_from 0 channels)

-- one number for each width, below 2 to the power of it
abbrev pub Fit : List ℕ → List ℕ → Type 0
Fit widths numbers = AllZip (λ w x. x < 2 ^ w) widths numbers

-- the content of channel c in a packet in which it starts: its numbers stand after those of the starting channels below it
abbrev pub content_of : List Channel → Packet → ℕ → List ℕ
content_of channels p c = take (length (widths_of (slice_get channels c)))
    (drop (length (widths_under p.starts (take c channels))) p.contents)

-- the packet of these starts and ends, with no gap
abbrev pub plain_packet : ℕ → ℕ → List ℕ → Packet
plain_packet starts ends contents = record { gap = 0; reset = false; starts = starts; ends = ends; contents = contents }

-- whether nothing starts and nothing ends
abbrev pub is_bare : ℕ → ℕ → Bool
is_bare starts ends = starts == 0 && ends == 0

-- a packet over these channels: a reset has no event and every other one has, its masks name channels of the table, and each start has
-- one number a port that fits it
pub record IsPacket (channels : List Channel) (p : Packet) : Type 0 where
  pub gap : p.gap < GAP_LIMIT
  pub event : p.reset ≡ is_bare p.starts p.ends
  pub starts : p.starts < 2 ^ length channels
  pub ends : p.ends < 2 ^ length channels
  pub contents : Fit (widths_under p.starts channels) p.contents
