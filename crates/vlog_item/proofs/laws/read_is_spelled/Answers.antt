use Rattle.std.proofs.Common.{ℕ}
use Rattle.vlog_item.proofs.ItemFound.{item_spelled}
use Rattle.vlog_item.proofs.laws.read_is_spelled.Goals as goal

pub returns : goal.returns
returns c = item_spelled ℕ
