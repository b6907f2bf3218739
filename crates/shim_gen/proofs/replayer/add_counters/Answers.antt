use Rattle.std.proofs.Common.{ℕ, ◌++◌, map}
use Rattle.std.specs.Prelude.{codes}
use Rattle.vlog_tree.specs.Plain.{plain_item}
use Rattle.shim_trees.specs.Pieces.{upto, reg, numbered}
use Rattle.shim_gen.proofs.Upto.{upto_pushed}
use Rattle.shim_gen.proofs.replayer.add_counters.Goals as goal

pub loop-j-preserved : goal.loop-j-preserved
loop-j-preserved c =
    let f = λ (j : ℕ). reg (numbered (codes "c") j) 32 in
    upto_pushed f (map plain_item c.loop-j.items) (map plain_item c.add_reg.new.items) (map plain_item c.args.items.now ++ upto f 0 c.args.count) c.loop-j.j c.args.count
    c.loop-j-test.true c.in_ok-add_reg.ensures c.loop-j.invariant
