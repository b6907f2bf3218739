use Rattle.std.proofs.Common.{◌≡◌, drop, map}
use Rattle.std.specs.List.{flat_map}
use Rattle.vlog_tree.specs.Plain.{plain_named}
use Rattle.vlog_names.specs.Uses.{in_named}
use Rattle.vlog_names.proofs.kinds.items.check_named.Given as goal

abbrev pub invariant-loop-value : goal.invariant-loop-value
invariant-loop-value l =
    flat_map (in_named l.names) (map plain_named (drop l.value-index l.values)) ≡ flat_map (in_named l.names) (map plain_named l.values)
