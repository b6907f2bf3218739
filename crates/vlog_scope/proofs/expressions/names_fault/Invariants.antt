use Rattle.std.proofs.Common.{◌≡◌, drop, map}
use Rattle.std.specs.List.{flat_map}
use Rattle.vlog_tree.specs.Plain.{plain_ident}
use Rattle.vlog_scope.specs.Faults.{name_faults}
use Rattle.vlog_scope.proofs.expressions.names_fault.Given as goal

abbrev pub invariant-loop-id : goal.invariant-loop-id
invariant-loop-id l = flat_map (name_faults l.kind l.extent) (map plain_ident (drop l.id-index l.ids))
    ≡ flat_map (name_faults l.kind l.extent) (map plain_ident l.ids)
