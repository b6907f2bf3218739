use Rattle.std.proofs.Common.{◌≡◌, drop, map}
use Rattle.std.specs.List.{flat_map}
use Rattle.vlog_tree.specs.Plain.{plain_named}
use Rattle.vlog_size.specs.Names.{readable_in}
use Rattle.vlog_scope.specs.Faults.{driven_faults}
use Rattle.vlog_scope.proofs.items.driven_fault.Given as goal

abbrev pub invariant-loop-wire : goal.invariant-loop-wire
invariant-loop-wire l = flat_map (driven_faults l.kind (readable_in l.view) l.extent) (map plain_named (drop l.wire-index l.wires))
    ≡ flat_map (driven_faults l.kind (readable_in l.view) l.extent) (map plain_named l.wires)
