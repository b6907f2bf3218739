-- The lines of a trace (this project's profile).
use Rattle.std.specs.Prelude.{ℕ, ◌==◌, Bool, List, [], ◌++◌, length, map, take, codes, decimal, if◌then◌else◌}
use Rattle.std.specs.List.{flat_map, enumerate_from, range_with_len}
use Rattle.text_page.specs.vidi_io.vidi_bits.Number.{has}
use Rattle.run_model.specs.trace_model.declared.channel.Channel.{Channel}
use Rattle.run_model.specs.trace_model.declared.channel.Dir.{Dir}
use Rattle.run_model.specs.trace_model.declared.channel.Dir.TheVariants.{Inward, Outward}
use Rattle.run_model.specs.trace_model.declared.packet.Packet.{Packet}
use Rattle.run_model.specs.trace_model.declared.trace.Trace.{Trace}
use Rattle.run_model.specs.trace_model.Packet.{content_of, count}
use Rattle.run_model.specs.trace_model.declared.event.Kind.TheVariants.{End}
use Rattle.run_model.specs.trace_model.Epoch.{since_reset}
use Rattle.report_text.specs.Text.{newline, spaced}

abbrev pub direction_text : Dir → List ℕ
direction_text Inward = codes " in "
direction_text Outward = codes " out "

-- `channel N in CH W ..` or `channel N out CH W ..`
abbrev pub channel_line : ℕ → Channel → List ℕ
channel_line n c = codes "channel " ++ (decimal n ++ (direction_text c.dir ++ (c.name ++ (spaced c.widths ++ newline))))

-- `packets N`
abbrev pub packets_line : ℕ → List ℕ
packets_line n = codes "packets " ++ (decimal n ++ newline)

-- the lines of channels that are numbered from n on
abbrev pub channel_lines : ℕ → List Channel → List ℕ
channel_lines n channels = flat_map (λ (x : ℕ × Channel). channel_line x.0 x.1) (enumerate_from n channels)

-- the clock of packet p: how many transactions of channel c complete in the packets of its epoch before it
abbrev pub epoch_clock : List Packet → ℕ → ℕ → ℕ
epoch_clock packets p c = count End c (since_reset (take p packets))

-- ` clock K ..`: the clock of packet p of n channels, and the end of the line
abbrev pub clock_text : ℕ → List Packet → ℕ → List ℕ
clock_text n packets p = codes " clock" ++ (spaced (map (epoch_clock packets p) (range_with_len 0 n)) ++ newline)

-- `P start CH V .. clock K ..` for each channel that starts in packet P, with the content that it starts
abbrev pub start_line : List Channel → ℕ → Packet → List ℕ → ℕ × Channel → List ℕ
start_line channels p packet clock x = decimal p ++ (codes " start " ++ (x.1.name ++ (spaced (content_of channels packet x.0) ++ clock)))

abbrev pub start_lines : List Channel → ℕ → Packet → List ℕ → List ℕ
start_lines channels p packet clock = flat_map (λ (x : ℕ × Channel). if has packet.starts x.0 then start_line channels p packet clock x
    else []) (enumerate_from 0 channels)

-- `P end CH clock K ..` for each channel that completes in packet P
abbrev pub end_line : ℕ → List ℕ → ℕ × Channel → List ℕ
end_line p clock x = decimal p ++ (codes " end " ++ (x.1.name ++ clock))

abbrev pub end_lines : List Channel → ℕ → Packet → List ℕ → List ℕ
end_lines channels p packet clock = flat_map (λ (x : ℕ × Channel). if has packet.ends x.0 then end_line p clock x else [])
    (enumerate_from 0 channels)

-- `P gap G`, where the gap is above 0
abbrev pub gap_line : ℕ → ℕ → List ℕ
gap_line p gap = if gap == 0 then [] else decimal p ++ (codes " gap " ++ (decimal gap ++ newline))

-- `P reset`, of a reset
abbrev pub reset_line : ℕ → Bool → List ℕ
reset_line p reset = if reset then decimal p ++ (codes " reset" ++ newline) else []

-- the line of a packet's gap, that of a reset, then a packet's starts in channel order and its ends, each with the packet's clock
abbrev pub lines_with : List Channel → ℕ → Packet → List ℕ → List ℕ
lines_with channels p packet clock = gap_line p packet.gap ++ (reset_line p packet.reset
    ++ (start_lines channels p packet clock ++ end_lines channels p packet clock))

abbrev pub packet_lines : List Channel → List Packet → ℕ × Packet → List ℕ
packet_lines channels packets x = lines_with channels x.0 x.1 (clock_text (length channels) packets x.0)

-- what `dump` prints of a trace
abbrev pub dump_text : Trace → List ℕ
dump_text t = channel_lines 0 t.channels ++ (flat_map (packet_lines t.channels t.packets) (enumerate_from 0 t.packets)
    ++ packets_line (length t.packets))
