use Rattle.std.specs.Prelude.{codes}
use Rattle.vlog_tree.specs.Plain.{plain_expr}
use Rattle.shim_trees.specs.Pieces.{net}
use Rattle.shim_trees.specs.Replayer.{covering}
use Rattle.shim_gen.proofs.Upto.{covering_on}
use Rattle.shim_gen.proofs.replayer.covering.Goals as goal

pub loop-j-preserved : goal.loop-j-preserved
loop-j-preserved c =
    covering_on (plain_expr c.loop-j.covering) _ (covering 0 c.args.count (net (codes "more"))) c.loop-j.j c.args.count c.loop-j-test.true
    c.in_ok-covering.ensures c.loop-j.invariant
