use Rattle.vlog_tree.proofs.Rows.{exprs_hidden}
use Rattle.std.proofs.Common.{ap}
use Rattle.vlog_tree.specs.Tree.{ConcatPrim}
use Rattle.vlog_tree.proofs.lists.concat.Goals as goal

pub returns : goal.returns
returns c = ap (ConcatPrim c.args.line) (exprs_hidden c.args.parts)
