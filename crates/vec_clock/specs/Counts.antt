-- The clock of the events in a packet as a list of numbers.
use Rattle.std.specs.Prelude.{ℕ, List, map}
use Rattle.std.specs.List.{range_with_len}
use Rattle.trace_model.specs.declared.packet.Packet.{Packet}
use Rattle.trace_model.specs.Clock.{clock}

-- *Clock* of packet p, channel by channel: the completions in the packets before p
abbrev pub clock_counts : ℕ → List Packet → ℕ → List ℕ
clock_counts n packets p = map (clock packets p) (range_with_len 0 n)
