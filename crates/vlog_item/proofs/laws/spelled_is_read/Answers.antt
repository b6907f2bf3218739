use Rattle.vlog_item.proofs.ItemSpelled.{item_read}
use Rattle.vlog_item.proofs.laws.spelled_is_read.Goals as goal

pub returns : goal.returns
returns c = λ i n r g w h. item_read (Unit {0}) tt i n r g w h
