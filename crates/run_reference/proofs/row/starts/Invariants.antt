use Rattle.std.proofs.Common.{◌≡◌, length}
use Rattle.run_model.specs.trace_model.Row.{row_before}
use Rattle.run_model.specs.Building.{starts_of}
use Rattle.run_reference.proofs.row.starts.Given as goal

abbrev pub invariant-loop-c : goal.invariant-loop-c
invariant-loop-c l = l.mask ≡ starts_of l.c (row_before l.before (length l.before)) l.valids l.gates
