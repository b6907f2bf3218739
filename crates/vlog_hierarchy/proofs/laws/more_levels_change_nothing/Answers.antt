use Rattle.vlog_hierarchy.proofs.Deeper.{enough}
use Rattle.vlog_hierarchy.proofs.laws.more_levels_change_nothing.Goals as goal

pub returns : goal.returns
returns c = λ n m os path k few. enough n m os path k few
