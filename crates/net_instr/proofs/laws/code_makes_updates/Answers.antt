use Rattle.net_instr.proofs.Whole.{made}
use Rattle.net_instr.proofs.laws.code_makes_updates.Goals as goal

pub returns : goal.returns
returns c = λ t widths words acts s h i r. made widths words t acts s h i r
