use Rattle.net_design.specs.Pins.{FitPins}
use Rattle.net_words.proofs.runs.run_cycles.Given as goal

abbrev pub invariant-loop : goal.invariant-loop
invariant-loop l = FitPins l.sim.design l.pins
