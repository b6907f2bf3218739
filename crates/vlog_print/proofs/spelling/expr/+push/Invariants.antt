use Rattle.std.proofs.Common.{◌≡◌, ◌++◌, drop}
use Rattle.vlog_tree.specs.Words.{tokens_of}
use Rattle.vlog_tree.specs.Plain.{plain_exprs}
use Rattle.vlog_tree.specs.Spelling.{more_exprs_words}
use Rattle.vlog_print.proofs.spelling.expr.+push.Given as goal

abbrev pub invariant-push_exprs-loop-e : goal.invariant-push_exprs-loop-e
invariant-push_exprs-loop-e l =
    l.out ++ tokens_of (more_exprs_words (plain_exprs (drop l.e-index l.rest))) ≡ l.initial.out
    ++ tokens_of (more_exprs_words (plain_exprs l.rest))
