use Rattle.std.proofs.Common.{◌≡◌, ◌++◌, ℕ, drop}
use Rattle.std.specs.List.{enumerate_from, flat_map}
use Rattle.run_model.specs.trace_model.declared.channel.Channel.{Channel}
use Rattle.run_model.specs.Held.{controlled, held, held_event}
use Rattle.run_reference.proofs.waiting.held.Given as goal

abbrev pub invariant-loop-c : goal.invariant-loop-c
invariant-loop-c l =
    l.out ++ flat_map (λ (d : ℕ × Channel). flat_map (held_event l.channels l.packets l.rows) (controlled l.rows d.0 d.1.dir))
    (enumerate_from l.c (drop l.c l.channels))
    ≡ held l.channels l.packets l.rows
