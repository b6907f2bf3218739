use Rattle.vlog_tree.proofs.Rows.{plain_concat}
use Rattle.vlog_tree.proofs.lists.see_concat.Goals as goal

pub returns : goal.returns
returns c = λ p is. plain_concat p c.args.line c.args.parts.now is
