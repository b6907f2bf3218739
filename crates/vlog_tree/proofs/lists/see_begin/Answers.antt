use Rattle.vlog_tree.proofs.Rows.{plain_begin}
use Rattle.vlog_tree.proofs.lists.see_begin.Goals as goal

pub returns : goal.returns
returns c = λ s is. plain_begin s c.args.stmts.now is
