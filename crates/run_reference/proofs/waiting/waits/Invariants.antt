use Rattle.std.proofs.Common.{◌≡◌, ◌++◌, ℕ, drop, not}
use Rattle.std.specs.List.{enumerate_from, filter, flat_map}
use Rattle.run_model.specs.trace_model.declared.channel.Channel.{Channel}
use Rattle.run_model.specs.trace_model.declared.event.Event.{Event}
use Rattle.run_model.specs.Held.{held, is_held, recorded_next, waits}
use Rattle.run_reference.proofs.waiting.waits.Given as goal

abbrev pub invariant-loop-c : goal.invariant-loop-c
invariant-loop-c l =
    l.out ++ filter (λ (e : Event). not (is_held (held l.channels l.packets l.rows) e))
    (flat_map (λ (d : ℕ × Channel). recorded_next l.packets l.rows d.0) (enumerate_from l.c (drop l.c l.channels)))
    ≡ waits l.channels l.packets l.rows
