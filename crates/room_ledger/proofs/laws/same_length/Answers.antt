use Rattle.room_ledger.proofs.Following.{same-len}
use Rattle.room_ledger.proofs.laws.same_length.Goals as goal

pub returns : goal.returns
returns c = same-len
