use Rattle.vlog_tree.proofs.Rows.{plain_concat_target}
use Rattle.vlog_tree.proofs.lists.see_concat_target.Goals as goal

pub returns : goal.returns
returns c = λ t is. plain_concat_target t c.args.line c.args.parts.now is
