use Rattle.vlog_tree.proofs.Rows.{plain_repeat}
use Rattle.vlog_tree.proofs.lists.see_repeat.Goals as goal

pub returns : goal.returns
returns c = λ p count is. plain_repeat p c.args.line count c.args.parts.now is
