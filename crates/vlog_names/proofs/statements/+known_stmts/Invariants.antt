use Rattle.std.proofs.Common.{◌≡◌, drop}
use Rattle.vlog_tree.specs.Plain.{plain_stmts, plain_arms}
use Rattle.vlog_names.specs.Unknown.{unknown_stmts, unknown_arms}
use Rattle.vlog_names.proofs.statements.+known_stmts.Given as goal

abbrev pub invariant-known_arms-loop-arm : goal.invariant-known_arms-loop-arm
invariant-known_arms-loop-arm l = unknown_arms l.names (plain_arms (drop l.arm-index l.arms)) ≡ unknown_arms l.names (plain_arms l.arms)

abbrev pub invariant-known_stmts-loop-stmt : goal.invariant-known_stmts-loop-stmt
invariant-known_stmts-loop-stmt l = unknown_stmts l.names (plain_stmts (drop l.stmt-index l.stmts))
    ≡ unknown_stmts l.names (plain_stmts l.stmts)
