use Rattle.vlog_tree.proofs.Rows.{stmts_hidden}
use Rattle.std.proofs.Common.{ap}
use Rattle.vlog_tree.specs.Tree.{BeginStmt}
use Rattle.vlog_tree.proofs.lists.begin.Goals as goal

pub returns : goal.returns
returns c = ap BeginStmt (stmts_hidden c.args.stmts)
