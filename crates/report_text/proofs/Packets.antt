-- The lines of one packet.
use Rattle.std.proofs.Common.{◌≡◌, ℕ, List, ◌++◌, length, map, codes, ap, ◌∙◌}
use Rattle.std.specs.List.{range_with_len}
use Rattle.run_model.specs.trace_model.declared.channel.Channel.{Channel}
use Rattle.run_model.specs.trace_model.declared.packet.Packet.{Packet}
use Rattle.report_text.specs.Text.{spaced, newline}
use Rattle.report_text.specs.Trace.{clock_text, epoch_clock, lines_with, packet_lines}

-- the text of a packet's clock, from the counts before it
clock-said : (packets : List Packet) (n p : ℕ) (counts text shown : List ℕ) → counts ≡ map (epoch_clock packets p) (range_with_len 0 n)
    → text ≡ codes " clock" ++ (spaced counts ++ newline) → shown ≡ text → shown ≡ clock_text n packets p
clock-said packets n p counts text shown e said same =
    same ∙ said ∙ ap (λ (k : List ℕ). codes " clock" ++ (spaced k ++ newline)) e

pub packet-said : (channels listed : List Channel) (packets : List Packet) (p : ℕ) (packet : Packet) (counts text shown : List ℕ)
    → listed ≡ channels → counts ≡ map (epoch_clock packets p) (range_with_len 0 (length channels))
    → text ≡ codes " clock" ++ (spaced counts ++ newline) → shown ≡ text
    → lines_with listed p packet shown ≡ packet_lines channels packets (p, packet)
packet-said channels listed packets p packet counts text shown all e said same =
    ap (λ (cs : List Channel). lines_with cs p packet shown) all ∙ ap (lines_with channels p packet)
    (clock-said packets (length channels) p counts text shown e said same)
