use Rattle.std.proofs.Common.{◌≡◌, drop}
use Rattle.vlog_hierarchy.specs.Clock.{clock_marks}
use Rattle.vlog_hierarchy.proofs.Marks.{marked_with}
use Rattle.vlog_hierarchy.proofs.clock.marks_of.Given as goal

abbrev pub invariant-loop-port : goal.invariant-loop-port
invariant-loop-port l = marked_with l.marks (drop l.port-index l.ports) ≡ clock_marks l.inputs l.ports
