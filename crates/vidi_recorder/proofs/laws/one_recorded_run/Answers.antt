use Rattle.vidi_recorder.proofs.Runs.{one-recorded}
use Rattle.vidi_recorder.proofs.laws.one_recorded_run.Goals as goal

pub returns : goal.returns
returns c = one-recorded
