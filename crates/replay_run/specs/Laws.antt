-- What follows from the definitions of a replay's end.
use Rattle.std.specs.Prelude.{◌≡◌, ℕ, List}
use Rattle.trace_code.specs.trace_model.declared.packet.Packet.{Packet}
use Rattle.trace_code.specs.trace_model.declared.row.Row.{Row}
use Rattle.net_design.specs.declared.design.Design.{Design}
use Rattle.run_stage.specs.chan_map.declared.pins.Map.{Map}
use Rattle.run_stage.specs.run_model.Laws.{ContentsFit, IsReady}
use Rattle.replay_run.specs.declared.outcome.ReplayOutcome.{ReplayOutcome}
use Rattle.replay_run.specs.Replaying.{EndsAs}

-- Of recorded packets a design with a map has exactly one replay of at most n cycles, in exactly one list of stretches, and it ends in one way.
abbrev pub OneOutcome : Type 0
OneOutcome = (d : Design) (m : Map) → IsReady d m → (packets : List Packet) → ContentsFit m.channels packets → (n : ℕ)
    → ∥ ((past : List (List Row)) × (here : List Row) × (outcome : ReplayOutcome) × EndsAs d m packets n past here outcome) ∥₁
    × ((past before : List (List Row)) (here there : List Row) (i j : ReplayOutcome) → EndsAs d m packets n past here i
    → EndsAs d m packets n before there j → (past ≡ before) × (here ≡ there) × (i ≡ j))
