use Rattle.room_ledger.proofs.Following.{keeps-gates}
use Rattle.room_ledger.proofs.laws.room_keeps_gates.Goals as goal

pub returns : goal.returns
returns c = keeps-gates
