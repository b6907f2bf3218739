use Rattle.std.proofs.Common.{◌≡◌, drop, map}
use Rattle.vlog_tree.specs.Plain.{plain_parameter}
use Rattle.vlog_scope.specs.Faults.{parameters_faults}
use Rattle.vlog_scope.proofs.faults.parameters_fault.Given as goal

abbrev pub invariant-loop-p : goal.invariant-loop-p
invariant-loop-p l = parameters_faults l.kind l.scope l.count l.extent (map plain_parameter (drop l.p-index l.list))
    ≡ parameters_faults l.kind l.scope l.initial.count l.initial.extent (map plain_parameter l.list)
