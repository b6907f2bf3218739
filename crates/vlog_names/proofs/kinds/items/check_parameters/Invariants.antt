use Rattle.std.proofs.Common.{◌≡◌, drop, map}
use Rattle.std.specs.List.{flat_map}
use Rattle.vlog_tree.specs.Plain.{plain_parameter}
use Rattle.vlog_names.specs.Uses.{in_parameter}
use Rattle.vlog_names.proofs.kinds.items.check_parameters.Given as goal

abbrev pub invariant-loop-parameter : goal.invariant-loop-parameter
invariant-loop-parameter l =
    flat_map (in_parameter l.names) (map plain_parameter (drop l.parameter-index l.parameters))
    ≡ flat_map (in_parameter l.names) (map plain_parameter l.parameters)
