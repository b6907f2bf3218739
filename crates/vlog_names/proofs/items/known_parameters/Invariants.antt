use Rattle.std.proofs.Common.{◌≡◌, drop, map}
use Rattle.std.specs.List.{flat_map}
use Rattle.vlog_tree.specs.Plain.{plain_parameter}
use Rattle.vlog_names.specs.Unknown.{unknown_parameter}
use Rattle.vlog_names.proofs.items.known_parameters.Given as goal

abbrev pub invariant-loop-parameter : goal.invariant-loop-parameter
invariant-loop-parameter l =
    flat_map (unknown_parameter l.names) (map plain_parameter (drop l.parameter-index l.parameters))
    ≡ flat_map (unknown_parameter l.names) (map plain_parameter l.parameters)
