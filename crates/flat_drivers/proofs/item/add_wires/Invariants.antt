use Rattle.std.proofs.Common.{map, drop}
use Rattle.vlog_tree.specs.Plain.{plain_named}
use Rattle.flat_parts.specs.vlog_driver.Sites.{site_of}
use Rattle.flat_parts.specs.vlog_driver.Duties.{Does, wire_duty}
use Rattle.flat_drivers.proofs.Added.{Going}
use Rattle.flat_drivers.proofs.item.add_wires.Given as goal

abbrev pub invariant-loop-wire : goal.invariant-loop-wire
invariant-loop-wire l =
    Going Does (map (wire_duty (site_of l.site)) (map plain_named (drop l.wire-index l.wires)))
    (map (wire_duty (site_of l.site)) (map plain_named l.wires)) l.out l.initial.out
