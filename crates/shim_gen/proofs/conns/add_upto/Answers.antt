use Rattle.std.proofs.Common.{ℕ, ◌++◌, [], ◌∷◌, map, ap, ◌∙◌}
use Rattle.vlog_tree.specs.Plain.{plain_conn}
use Rattle.shim_trees.specs.Pieces.{upto}
use Rattle.shim_gen.specs.Rows.{conn_at}
use Rattle.shim_gen.proofs.Joined.{same_conn}
use Rattle.shim_gen.proofs.Upto.{upto_pushed}
use Rattle.shim_gen.proofs.conns.add_upto.Goals as goal

pub loop-i-preserved : goal.loop-i-preserved
loop-i-preserved c =
    let f = λ (j : ℕ). conn_at c.args.port c.args.label j in
    let before = map plain_conn c.loop-i.conns in
    let same = same_conn c.at.result c.args.port c.label_at.result c.args.label c.loop-i.i c.at.ensures c.label_at.ensures in
    upto_pushed f before (map plain_conn c.add_conn.new.conns) (map plain_conn c.args.conns.now ++ upto f 0 c.args.count) c.loop-i.i
    c.args.count c.loop-i-test.true (c.in_ok-add_conn.ensures ∙ ap (λ x. before ++ x ∷ []) same) c.loop-i.invariant
