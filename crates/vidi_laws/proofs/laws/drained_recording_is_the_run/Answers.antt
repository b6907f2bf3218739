use Rattle.vidi_laws.proofs.Headline.{drained-run}
use Rattle.vidi_laws.proofs.laws.drained_recording_is_the_run.Goals as goal

pub returns : goal.returns
returns c = drained-run
