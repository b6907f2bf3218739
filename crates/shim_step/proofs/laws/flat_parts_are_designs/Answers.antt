use Rattle.shim_step.proofs.FlatPart.{part_settles, part_goes_on, part_begins}
use Rattle.shim_step.proofs.laws.flat_parts_are_designs.Goals as goal

pub returns-clause-settles : goal.returns-clause-settles
returns-clause-settles c = part_settles

pub returns-clause-goes_on : goal.returns-clause-goes_on
returns-clause-goes_on c = part_goes_on

pub returns-clause-begins : goal.returns-clause-begins
returns-clause-begins c = part_begins
