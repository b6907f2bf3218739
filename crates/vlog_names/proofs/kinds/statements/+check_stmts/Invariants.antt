use Rattle.std.proofs.Common.{◌≡◌, drop, false}
use Rattle.vlog_tree.specs.Plain.{plain_stmts, plain_arms}
use Rattle.vlog_names.specs.Uses.{in_stmts, in_arms}
use Rattle.vlog_names.proofs.kinds.statements.+check_stmts.Given as goal

abbrev pub invariant-check_arms-loop-arm : goal.invariant-check_arms-loop-arm
invariant-check_arms-loop-arm l =
    in_arms l.is_clocked l.names l.seen (plain_arms (drop l.arm-index l.arms)) ≡ in_arms l.is_clocked l.names false (plain_arms l.arms)

abbrev pub invariant-check_stmts-loop-stmt : goal.invariant-check_stmts-loop-stmt
invariant-check_stmts-loop-stmt l =
    in_stmts l.is_clocked l.names (plain_stmts (drop l.stmt-index l.stmts)) ≡ in_stmts l.is_clocked l.names (plain_stmts l.stmts)
