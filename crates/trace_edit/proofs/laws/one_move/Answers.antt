use Rattle.trace_edit.proofs.OneAnswer.{one-move}
use Rattle.trace_edit.proofs.laws.one_move.Goals as goal

pub returns : goal.returns
returns c = one-move
