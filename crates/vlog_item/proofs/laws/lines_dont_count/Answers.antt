use Rattle.std.proofs.Common.{ℕ}
use Rattle.vlog_item.proofs.ItemNatural.{item_natural}
use Rattle.vlog_item.proofs.laws.lines_dont_count.Goals as goal

pub returns : goal.returns
returns c = item_natural ℕ
