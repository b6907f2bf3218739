use Rattle.std.proofs.Common.{◌≡◌, drop, map}
use Rattle.vlog_tree.specs.Plain.{plain_named}
use Rattle.vlog_scope.specs.Params.{local_params}
use Rattle.vlog_scope.proofs.parameters.add_locals.Given as goal

abbrev pub invariant-loop-v : goal.invariant-loop-v
invariant-loop-v l = local_params l.extent l.so_far (map plain_named (drop l.v-index l.list))
    ≡ local_params l.extent l.initial.so_far (map plain_named l.list)
