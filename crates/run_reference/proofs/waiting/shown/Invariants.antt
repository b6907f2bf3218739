use Rattle.std.proofs.Common.{◌≡◌, ◌≤◌, take}
use Rattle.run_model.specs.trace_model.Recording.{shown}
use Rattle.run_reference.proofs.waiting.shown.Given as goal

abbrev pub invariant-loop-row : goal.invariant-loop-row
invariant-loop-row l = record { count : l.count ≡ shown l.kind l.c (take l.row-index l.rows); few : l.count ≤ l.row-index }
