use Rattle.vidi_laws.proofs.Headline.{run-kept}
use Rattle.vidi_laws.proofs.laws.recorded_run_is_kept.Goals as goal

pub returns : goal.returns
returns c = run-kept
