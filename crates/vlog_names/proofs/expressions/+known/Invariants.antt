use Rattle.std.proofs.Common.{◌≡◌, drop}
use Rattle.vlog_tree.specs.Plain.{plain_exprs}
use Rattle.vlog_size.specs.Kinds.{at_names_of_all}
use Rattle.vlog_names.specs.Unknown.{unknown_at}
use Rattle.vlog_names.proofs.expressions.+known.Given as goal

abbrev pub invariant-known_exprs-loop-e : goal.invariant-known_exprs-loop-e
invariant-known_exprs-loop-e l =
    at_names_of_all (unknown_at l.names) (plain_exprs (drop l.e-index l.exprs)) ≡ at_names_of_all (unknown_at l.names) (plain_exprs l.exprs)
