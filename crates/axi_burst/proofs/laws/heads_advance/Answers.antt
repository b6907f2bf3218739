use Rattle.axi_burst.proofs.NextHead.{heads-advance}
use Rattle.axi_burst.proofs.laws.heads_advance.Goals as goal

pub returns : goal.returns
returns c = heads-advance
