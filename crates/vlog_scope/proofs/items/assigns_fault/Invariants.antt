use Rattle.std.proofs.Common.{◌≡◌, drop, map}
use Rattle.std.specs.List.{flat_map}
use Rattle.vlog_tree.specs.Plain.{plain_assign}
use Rattle.vlog_size.specs.Names.{readable_in}
use Rattle.vlog_scope.specs.Faults.{assigned_faults}
use Rattle.vlog_scope.proofs.items.assigns_fault.Given as goal

abbrev pub invariant-loop-assign : goal.invariant-loop-assign
invariant-loop-assign l = flat_map (assigned_faults l.kind (readable_in l.view)) (map plain_assign (drop l.assign-index l.assigns))
    ≡ flat_map (assigned_faults l.kind (readable_in l.view)) (map plain_assign l.assigns)
