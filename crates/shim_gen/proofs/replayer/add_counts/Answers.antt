use Rattle.std.proofs.Common.{◌++◌, map}
use Rattle.vlog_tree.specs.Plain.{plain_stmt}
use Rattle.shim_trees.specs.Pieces.{upto}
use Rattle.shim_gen.specs.Counting.{counted}
use Rattle.shim_gen.proofs.Upto.{upto_pushed}
use Rattle.shim_gen.proofs.replayer.add_counts.Goals as goal

pub loop-j-preserved : goal.loop-j-preserved
loop-j-preserved c =
    upto_pushed counted (map plain_stmt c.loop-j.stmts) (map plain_stmt c.add_count.new.stmts) (map plain_stmt c.args.stmts.now ++ upto counted 0 c.args.count) c.loop-j.j
    c.args.count c.loop-j-test.true c.in_ok-add_count.ensures c.loop-j.invariant
