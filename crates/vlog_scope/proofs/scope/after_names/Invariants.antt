use Rattle.std.proofs.Common.{◌≡◌, drop, map}
use Rattle.vlog_tree.specs.Plain.{plain_named}
use Rattle.vlog_scope.specs.Scope.{after_names}
use Rattle.vlog_scope.proofs.scope.after_names.Given as goal

abbrev pub invariant-loop-v : goal.invariant-loop-v
invariant-loop-v l = after_names l.params l.count (map plain_named (drop l.v-index l.list))
    ≡ after_names l.params l.initial.count (map plain_named l.list)
