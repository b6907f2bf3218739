use Rattle.std.proofs.Common.{◌≡◌, drop, map}
use Rattle.std.specs.List.{flat_map}
use Rattle.vlog_tree.specs.Plain.{plain_assign}
use Rattle.vlog_names.specs.Uses.{in_assign}
use Rattle.vlog_names.proofs.kinds.items.check_assigns.Given as goal

abbrev pub invariant-loop-assign : goal.invariant-loop-assign
invariant-loop-assign l =
    flat_map (in_assign l.names) (map plain_assign (drop l.assign-index l.assigns))
    ≡ flat_map (in_assign l.names) (map plain_assign l.assigns)
