use Rattle.std.proofs.Common.{◌≡◌, ◌++◌, drop}
use Rattle.vlog_tree.specs.Words.{tokens_of}
use Rattle.vlog_tree.specs.Plain.{plain_targets}
use Rattle.vlog_tree.specs.Spelling.{more_targets_words}
use Rattle.vlog_print.proofs.spelling.stmt.+push_targets.Given as goal

abbrev pub invariant-push_targets-loop-target : goal.invariant-push_targets-loop-target
invariant-push_targets-loop-target l =
    l.out ++ tokens_of (more_targets_words (plain_targets (drop l.target-index l.rest))) ≡ l.initial.out
    ++ tokens_of (more_targets_words (plain_targets l.rest))
