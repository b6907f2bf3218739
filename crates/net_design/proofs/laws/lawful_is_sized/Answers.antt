use Rattle.net_design.proofs.LawfulCode.{lawful_sized}
use Rattle.net_design.proofs.laws.lawful_is_sized.Goals as goal

pub returns : goal.returns
returns c = lawful_sized
