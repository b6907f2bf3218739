use Rattle.shim_step.proofs.Part.{part_is_settled, part_is_next, part_is_initial}
use Rattle.shim_step.proofs.laws.parts_are_designs.Goals as goal

pub returns-clause-settled : goal.returns-clause-settled
returns-clause-settled c = part_is_settled

pub returns-clause-next : goal.returns-clause-next
returns-clause-next c = part_is_next

pub returns-clause-initial : goal.returns-clause-initial
returns-clause-initial c = part_is_initial
