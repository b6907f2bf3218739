use Rattle.net_code.proofs.MovedValues.{apply_moved, before_stay}
use Rattle.net_code.proofs.move_laws.moved_changes.Goals as goal

pub returns-clause-after : goal.returns-clause-after
returns-clause-after c = apply_moved

pub returns-clause-before : goal.returns-clause-before
returns-clause-before c = before_stay
