use Rattle.std.proofs.Common.{◌≡◌, ◌-◌, ◌++◌, map}
use Rattle.vlog_tree.specs.Plain.{plain_stmt}
use Rattle.shim_trees.specs.Pieces.{upto}
use Rattle.shim_gen.specs.Counting.{counted}
use Rattle.shim_gen.proofs.replayer.add_counts.Given as goal

abbrev pub invariant-loop-j : goal.invariant-loop-j
invariant-loop-j l = map plain_stmt l.stmts ++ upto counted l.j (l.count - l.j) ≡ map plain_stmt l.initial.stmts ++ upto counted 0 l.count
