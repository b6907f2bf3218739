use Rattle.std.proofs.Common.{◌≡◌, ◌-◌}
use Rattle.std.specs.Prelude.{codes}
use Rattle.vlog_tree.specs.Plain.{plain_expr}
use Rattle.shim_trees.specs.Pieces.{net}
use Rattle.shim_trees.specs.Replayer.{covering}
use Rattle.shim_gen.proofs.replayer.covering.Given as goal

abbrev pub invariant-loop-j : goal.invariant-loop-j
invariant-loop-j l = covering l.j (l.count - l.j) (plain_expr l.covering) ≡ covering 0 l.count (net (codes "more"))
