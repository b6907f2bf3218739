use Rattle.vidi_laws.proofs.OneRun.{one-replay_of_files}
use Rattle.vidi_laws.proofs.runs.one_replay_of_files.Goals as goal

pub returns : goal.returns
returns c = one-replay_of_files
