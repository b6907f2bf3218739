use Rattle.room_ledger.proofs.GateLaws.{permit-waits}
use Rattle.room_ledger.proofs.laws.permit_down_only_while_bytes_wait.Goals as goal

pub returns : goal.returns
returns c = permit-waits
