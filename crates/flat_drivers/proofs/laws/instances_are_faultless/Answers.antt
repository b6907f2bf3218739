use Rattle.flat_drivers.proofs.Lawful.{all_faultless}
use Rattle.flat_drivers.proofs.laws.instances_are_faultless.Goals as goal

pub returns : goal.returns
returns c = all_faultless
