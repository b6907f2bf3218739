use Rattle.net_design.proofs.FrameLaws.{unwritten}
use Rattle.net_design.proofs.laws.unwritten_bits_stay.Goals as goal

pub returns : goal.returns
returns c = unwritten
