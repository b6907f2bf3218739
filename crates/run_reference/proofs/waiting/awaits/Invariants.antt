use Rattle.std.proofs.Common.{◌≡◌, ◌++◌, ℕ, drop}
use Rattle.std.specs.List.{enumerate_from, flat_map}
use Rattle.run_model.specs.trace_model.declared.channel.Channel.{Channel}
use Rattle.run_model.specs.trace_model.Clock.{clock}
use Rattle.run_model.specs.Held.{await_on, awaits}
use Rattle.run_model.specs.Replay.{done}
use Rattle.run_reference.proofs.waiting.awaits.Given as goal

abbrev pub invariant-loop-c : goal.invariant-loop-c
invariant-loop-c l =
    l.out ++ flat_map (λ (d : ℕ × Channel). await_on (done l.rows) (clock l.packets l.place) d.0) (enumerate_from l.c (drop l.c l.channels))
    ≡ awaits l.channels (done l.rows) (clock l.packets l.place)
