use Rattle.room_ledger.proofs.GateLaws.{stay-up}
use Rattle.room_ledger.proofs.laws.all_stay_up.Goals as goal

pub returns : goal.returns
returns c = stay-up
