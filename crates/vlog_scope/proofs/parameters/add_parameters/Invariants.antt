use Rattle.std.proofs.Common.{◌≡◌, drop, map}
use Rattle.vlog_tree.specs.Plain.{plain_parameter}
use Rattle.vlog_scope.specs.Params.{header_params}
use Rattle.vlog_scope.specs.Given.{given_in}
use Rattle.vlog_scope.proofs.parameters.add_parameters.Given as goal

abbrev pub invariant-loop-p : goal.invariant-loop-p
invariant-loop-p l = header_params (given_in l.given) l.extent l.so_far (map plain_parameter (drop l.p-index l.list))
    ≡ header_params (given_in l.given) l.initial.extent l.initial.so_far (map plain_parameter l.list)
