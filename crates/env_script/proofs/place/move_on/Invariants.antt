use Rattle.std.proofs.Common.{List}
use Rattle.run_model.specs.trace_model.declared.row.Row.{Row}
use Rattle.env_script.specs.Places.{AreCounts, ArePlaces}
use Rattle.env_script.proofs.Moves.{HaveMoved}
use Rattle.env_script.proofs.place.move_on.Given as goal

abbrev pub invariant-loop-c : goal.invariant-loop-c
invariant-loop-c l = (rows : List Row) → AreCounts rows l.done l.cycle → ArePlaces rows l.script l.initial.places l.cycle
    → HaveMoved rows l.script l.places l.cycle l.c
