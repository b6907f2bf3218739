use Rattle.trace_edit.proofs.Whole.{move-keeps}
use Rattle.trace_edit.proofs.laws.move_keeps.Goals as goal

pub returns : goal.returns
returns c = move-keeps
