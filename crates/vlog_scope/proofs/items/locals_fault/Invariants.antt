use Rattle.std.proofs.Common.{◌≡◌, drop, map}
use Rattle.vlog_tree.specs.Plain.{plain_named}
use Rattle.vlog_scope.specs.Faults.{local_faults}
use Rattle.vlog_scope.proofs.items.locals_fault.Given as goal

abbrev pub invariant-loop-v : goal.invariant-loop-v
invariant-loop-v l = local_faults l.kind l.scope l.count l.extent (map plain_named (drop l.v-index l.list))
    ≡ local_faults l.kind l.scope l.initial.count l.extent (map plain_named l.list)
