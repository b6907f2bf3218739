use Rattle.vlog_tree.proofs.Rows.{plain_case}
use Rattle.vlog_tree.proofs.lists.see_case.Goals as goal

pub returns : goal.returns
returns c = λ s is. plain_case s c.args.expression.now c.args.arms.now is
