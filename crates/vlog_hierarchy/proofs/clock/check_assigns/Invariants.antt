use Rattle.std.proofs.Common.{◌≡◌, map, drop}
use Rattle.std.specs.List.{flat_map}
use Rattle.vlog_tree.specs.Plain.{plain_assign}
use Rattle.vlog_hierarchy.specs.Clock.{assign_faults}
use Rattle.vlog_hierarchy.proofs.clock.check_assigns.Given as goal

abbrev pub invariant-loop-assign : goal.invariant-loop-assign
invariant-loop-assign l =
    flat_map (assign_faults l.marks l.joined) (map plain_assign (drop l.assign-index l.assigns))
    ≡ flat_map (assign_faults l.marks l.joined) (map plain_assign l.assigns)
