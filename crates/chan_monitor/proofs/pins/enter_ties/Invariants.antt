use Rattle.std.proofs.Common.{◌≡◌, drop, map}
use Rattle.run_model.specs.Pins.{tie_input}
use Rattle.chan_monitor.specs.Entering.{write}
use Rattle.chan_monitor.proofs.pins.enter_ties.Given as goal

abbrev pub invariant-loop-tie : goal.invariant-loop-tie
invariant-loop-tie l = write l.pins (map tie_input (drop l.tie-index l.ties)) ≡ write l.fn.pins (map tie_input l.ties)
