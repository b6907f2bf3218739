use Rattle.std.proofs.Common.{◌≡◌, drop, map}
use Rattle.vlog_tree.specs.Plain.{plain_ident}
use Rattle.vlog_scope.specs.Scope.{wire_nets}
use Rattle.vlog_scope.proofs.scope.add_wires.Given as goal

abbrev pub invariant-loop-id : goal.invariant-loop-id
invariant-loop-id l = wire_nets l.extent l.nets (map plain_ident (drop l.id-index l.ids))
    ≡ wire_nets l.extent l.initial.nets (map plain_ident l.ids)
