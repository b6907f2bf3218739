use Rattle.sample_gen.proofs.Plans.{plans_read}
use Rattle.sample_gen.proofs.laws.plans_are_read.Goals as goal

pub returns : goal.returns
returns c = plans_read
