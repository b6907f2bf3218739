use Rattle.vidi_recorder.proofs.Kept.{drained-plain}
use Rattle.vidi_recorder.proofs.laws.drained_run_is_plain.Goals as goal

pub returns : goal.returns
returns c = drained-plain
