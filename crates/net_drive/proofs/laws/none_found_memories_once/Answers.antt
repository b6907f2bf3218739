use Rattle.net_drive.proofs.NoneFound.{memories_once}
use Rattle.net_drive.proofs.laws.none_found_memories_once.Goals as goal

pub returns : goal.returns
returns c = λ nets kinds memories drivers blocks e i a is. memories_once nets kinds memories drivers blocks e i a is
