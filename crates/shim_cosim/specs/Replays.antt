-- Replays of one design by two shells.
use Rattle.std.specs.Prelude.{◌≡◌, ℕ, List}
use Rattle.replay_run.specs.trace_model.declared.packet.Packet.{Packet}
use Rattle.replay_run.specs.trace_model.declared.row.Row.{Row}
use Rattle.net_design.specs.declared.design.Design.{Design}
use Rattle.net_design.specs.declared.values.Values.{Values}
use Rattle.replay_run.specs.chan_map.declared.pins.Map.{Map}
use Rattle.replay_run.specs.run_model.Laws.{ContentsFit, IsReady}
use Rattle.replay_run.specs.declared.outcome.Replayed.{Replayed}
use Rattle.replay_run.specs.Replaying.{IsReplayed}

-- A replay of recorded packets by one of two shells answers the same as by the other, with the same bytes, where both run the same design.
-- The shells run what is given.
abbrev pub ReplaysAlike : (Design → Values → List Row → Type 0) → (Design → Values → List Row → Type 0) → Type 0
ReplaysAlike p q = (d : Design) (m : Map) → IsReady d m → (packets : List Packet) → ContentsFit m.channels packets → (n : ℕ)
    → (a b : Replayed) → IsReplayed d m packets n p a → IsReplayed d m packets n q b → a ≡ b
