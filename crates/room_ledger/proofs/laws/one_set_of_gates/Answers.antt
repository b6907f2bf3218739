use Rattle.room_ledger.proofs.Existence.{has-gates}
use Rattle.room_ledger.proofs.GateLaws.{one-set}
use Rattle.room_ledger.proofs.laws.one_set_of_gates.Goals as goal

pub returns : goal.returns
returns c sizes plan rows t fresh over l = (has-gates sizes plan rows t fresh over l, one-set sizes plan rows t fresh)
