use Rattle.std.proofs.Common.{◌≡◌, ◌+◌, length, drop}
use Rattle.chan_monitor.specs.Entering.{inputs_count}
use Rattle.chan_monitor.proofs.cycles.push_plugs.Given as goal

abbrev pub invariant-loop-c : goal.invariant-loop-c
invariant-loop-c l = length l.pins + inputs_count (drop l.c l.channels) (drop l.c l.plugs)
    ≡ length l.fn.pins + inputs_count l.channels l.plugs
