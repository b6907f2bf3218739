-- *Transactions* and *Trace of rows*: what happened on the channels, and what is recorded of it.
use Rattle.std.specs.Prelude.{ℕ, ◌+◌, ◌-◌, ◌==◌, ◌&&◌, Bool, true, false, not, List, [], ◌∷◌, ◌++◌, map, count_by, if◌then◌else◌}
use Rattle.std.specs.List.{flat_map, filter, enumerate_from}
use Rattle.vidi_bits.specs.Number.{has}
use Rattle.trace_model.specs.declared.channel.Channel.{Channel}
use Rattle.trace_model.specs.declared.event.Kind.{Kind}
use Rattle.trace_model.specs.declared.event.Kind.TheVariants.{Start, End, Reset}
use Rattle.trace_model.specs.declared.packet.Packet.{Packet}
use Rattle.trace_model.specs.declared.row.Row.{Row}
use Rattle.trace_model.specs.declared.trace.Trace.{Trace}
use Rattle.trace_model.specs.Counting.{IsNth}
use Rattle.trace_model.specs.Packet.{does, content_of, plain_packet}
use Rattle.trace_model.specs.Row.{content_at}

-- whether a row has a start, or an end, of channel c; the reset before it is none of its events
abbrev pub row_does : Kind → ℕ → Row → Bool
row_does Start c row = has row.starts c
row_does End c row = has row.ends c
row_does Reset c row = false

-- how many of these rows have one
abbrev pub shown : Kind → ℕ → List Row → ℕ
shown kind c rows = count_by (row_does kind c) rows

-- the transactions of channel c: its starts in order, with their contents
abbrev pub transactions : List Channel → List Row → ℕ → List (List ℕ)
transactions channels rows c = map (λ (row : Row). content_at channels row.contents c) (filter (row_does Start c) rows)

-- transaction j of channel c starts in row t, and completes in row u: the j-th completion stands beside the j-th start
pub record IsTransaction (rows : List Row) (c j t u : ℕ) : Type 0 where
  pub first : Row
  pub last : Row
  pub starts : IsNth (row_does Start c) rows j t first
  pub ends : IsNth (row_does End c) rows j u last

abbrev pub has_event : Row → Bool
has_event row = not (row.starts == 0 && row.ends == 0)

-- the contents of the channels that a mask names, out of those of all channels
abbrev pub contents_under : ℕ → List Channel → List ℕ → List ℕ
contents_under mask channels contents = flat_map (λ (c : ℕ × Channel). if has mask c.0 then content_at channels contents c.0 else [])
    (enumerate_from 0 channels)

-- the packet of a row, without its gap: its starts with their contents, and its ends
abbrev pub packet_of : List Channel → Row → Packet
packet_of channels row = plain_packet row.starts row.ends (contents_under row.starts channels row.contents)

-- one packet for each row with an event, in order
abbrev pub packets_of : List Channel → List Row → List Packet
packets_of channels rows = map (packet_of channels) (filter has_event rows)

-- a packet after a gap
abbrev pub after_gap : ℕ → Packet → Packet
after_gap gap p = record p { gap = gap }

-- the reset before a row
abbrev pub reset_packet : ℕ → Packet
reset_packet gap = record { gap = gap; reset = true; starts = 0; ends = 0; contents = [] }

-- Where row t follows packets that end at `before`: its own packet follows what ends there, which is the row's beginning where it is fresh
abbrev pub own_before : ℕ → ℕ → Row → ℕ
own_before t before row = if row.fresh then t else before

-- its packets: the reset before it where it is fresh, which begins and ends at t, and its events, which begin at t and end at t + 1
abbrev pub packets_at : List Channel → ℕ → ℕ → Row → List Packet
packets_at channels t before row = (if row.fresh then reset_packet (t - before) ∷ [] else [])
    ++ (if has_event row then after_gap (t - own_before t before row) (packet_of channels row) ∷ [] else [])

-- where they end
abbrev pub end_after : ℕ → ℕ → Row → ℕ
end_after t before row = if has_event row then t + 1 else own_before t before row

-- the packets of the rows from row t on
abbrev pub packets_from : List Channel → ℕ → ℕ → List Row → List Packet
packets_from channels t before [] = []
packets_from channels t before (row ∷ rows) = packets_at channels t before row ++ packets_from channels (t + 1) (end_after t before row) rows

-- where they end
abbrev pub end_of : ℕ → ℕ → List Row → ℕ
end_of t before [] = before
end_of t before (row ∷ rows) = end_of (t + 1) (end_after t before row) rows

abbrev pub trace_of : List Channel → List Row → Trace
trace_of channels rows = record { channels = channels; packets = packets_from channels 0 0 rows }

-- the transactions that packets record of channel c
abbrev pub recorded : List Channel → List Packet → ℕ → List (List ℕ)
recorded channels packets c = map (λ (p : Packet). content_of channels p c) (filter (does Start c) packets)
