use Rattle.std.proofs.Common.{◌++◌, map, ap, ◌∙◌}
use Rattle.vlog_tree.specs.Plain.{plain_stmt}
use Rattle.vlog_tree.specs.Tree.{BeginStmt, stmts_of}
use Rattle.shim_trees.specs.Pieces.{upto}
use Rattle.shim_gen.specs.Counting.{counted}
use Rattle.shim_gen.proofs.Upto.{counting_is}
use Rattle.shim_gen.proofs.replayer.add_counting.Goals as goal

pub returns : goal.returns
returns c =
    let counts = c.in_ok-add_counts.ensures ∙ ap (λ stmts. map plain_stmt stmts ++ upto counted 0 c.args.count) c.new-stmts.ensures in
    let same = c.begin.ensures ∙ ap (λ ss. BeginStmt (stmts_of ss)) counts ∙ ap BeginStmt (counting_is 0 c.args.count) in
    rw same at c.add_at_clock.ensures
