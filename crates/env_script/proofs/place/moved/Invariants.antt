use Rattle.std.proofs.Common.{◌≡◌, List}
use Rattle.run_model.specs.trace_model.declared.row.Row.{Row}
use Rattle.env_script.specs.Places.{AreCounts, IsAt, Waited}
use Rattle.env_script.proofs.place.moved.Given as goal

abbrev pub invariant-loop-at : goal.invariant-loop-at
invariant-loop-at l = record {
  step : l.place.step ≡ l.at;
  stands : (rows : List Row) → AreCounts rows l.done l.cycle → IsAt rows l.c l.steps l.fn.from → Waited rows l.c l.steps l.fn.from l.cycle
      → IsAt rows l.c l.steps l.place × Waited rows l.c l.steps l.place l.cycle;
}
