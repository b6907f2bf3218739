use Rattle.vidi_recorder.proofs.Kept.{run-is_kept}
use Rattle.vidi_recorder.proofs.laws.the_run_is_kept.Goals as goal

pub returns : goal.returns
returns c = run-is_kept
