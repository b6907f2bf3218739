use Rattle.vidi_laws.proofs.OneRun.{one-recording}
use Rattle.vidi_laws.proofs.runs.one_recording.Goals as goal

pub returns : goal.returns
returns c = one-recording
