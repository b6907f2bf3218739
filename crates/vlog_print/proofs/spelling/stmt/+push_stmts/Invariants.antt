use Rattle.std.proofs.Common.{◌≡◌, ◌++◌, drop}
use Rattle.vlog_tree.specs.Words.{tokens_of}
use Rattle.vlog_tree.specs.Plain.{plain_stmts, plain_arms}
use Rattle.vlog_tree.specs.Spelling.{stmts_words, arms_words}
use Rattle.vlog_print.proofs.spelling.stmt.+push_stmts.Given as goal

abbrev pub invariant-push_arms-loop-arm : goal.invariant-push_arms-loop-arm
invariant-push_arms-loop-arm l =
    l.out ++ tokens_of (arms_words (plain_arms (drop l.arm-index l.arms))) ≡ l.initial.out
    ++ tokens_of (arms_words (plain_arms l.arms))

abbrev pub invariant-push_stmts-loop-stmt : goal.invariant-push_stmts-loop-stmt
invariant-push_stmts-loop-stmt l =
    l.out ++ tokens_of (stmts_words (plain_stmts (drop l.stmt-index l.stmts))) ≡ l.initial.out
    ++ tokens_of (stmts_words (plain_stmts l.stmts))
