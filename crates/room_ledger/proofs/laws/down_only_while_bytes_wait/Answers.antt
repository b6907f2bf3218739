use Rattle.room_ledger.proofs.GateLaws.{down-waits}
use Rattle.room_ledger.proofs.laws.down_only_while_bytes_wait.Goals as goal

pub returns : goal.returns
returns c = down-waits
