use Rattle.std.proofs.Common.{◌≡◌, drop, map}
use Rattle.vlog_tree.specs.Plain.{plain_named}
use Rattle.vlog_scope.specs.Scope.{driven_nets}
use Rattle.vlog_scope.proofs.scope.add_driven.Given as goal

abbrev pub invariant-loop-wire : goal.invariant-loop-wire
invariant-loop-wire l = driven_nets l.extent l.nets (map plain_named (drop l.wire-index l.wires))
    ≡ driven_nets l.extent l.initial.nets (map plain_named l.wires)
