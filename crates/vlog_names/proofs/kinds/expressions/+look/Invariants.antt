use Rattle.std.proofs.Common.{◌≡◌, drop}
use Rattle.vlog_tree.specs.Plain.{plain_exprs}
use Rattle.vlog_names.specs.Kinds.{at_names_of_all}
use Rattle.vlog_names.specs.Selects.{sought_at}
use Rattle.vlog_names.proofs.kinds.expressions.+look.Given as goal

abbrev pub invariant-look_in_exprs-loop-e : goal.invariant-look_in_exprs-loop-e
invariant-look_in_exprs-loop-e l =
    at_names_of_all (sought_at l.sought l.names) (plain_exprs (drop l.e-index l.exprs))
    ≡ at_names_of_all (sought_at l.sought l.names) (plain_exprs l.exprs)
