use Rattle.std.proofs.Common.{◌≡◌, map, drop}
use Rattle.std.specs.List.{flat_map}
use Rattle.vlog_tree.specs.Plain.{plain_named}
use Rattle.vlog_hierarchy.specs.Clock.{wire_faults}
use Rattle.vlog_hierarchy.proofs.clock.check_wires.Given as goal

abbrev pub invariant-loop-wire : goal.invariant-loop-wire
invariant-loop-wire l =
    flat_map (wire_faults l.marks l.joined) (map plain_named (drop l.wire-index l.wires))
    ≡ flat_map (wire_faults l.marks l.joined) (map plain_named l.wires)
