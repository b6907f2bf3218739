use Rattle.vlog_tree.proofs.Rows.{targets_hidden}
use Rattle.std.proofs.Common.{ap}
use Rattle.vlog_tree.specs.Tree.{ConcatTarget}
use Rattle.vlog_tree.proofs.lists.concat_target.Goals as goal

pub returns : goal.returns
returns c = ap (ConcatTarget c.args.line) (targets_hidden c.args.parts)
