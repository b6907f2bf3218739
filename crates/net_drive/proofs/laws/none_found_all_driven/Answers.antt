use Rattle.net_drive.proofs.NoneFound.{all_driven}
use Rattle.net_drive.proofs.laws.none_found_all_driven.Goals as goal

pub returns : goal.returns
returns c = λ nets kinds memories drivers blocks e m n is. all_driven nets kinds memories drivers blocks e m n is
