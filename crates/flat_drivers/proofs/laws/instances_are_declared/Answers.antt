use Rattle.flat_drivers.proofs.Declared.{all_declared}
use Rattle.flat_drivers.proofs.laws.instances_are_declared.Goals as goal

pub returns : goal.returns
returns c = all_declared
