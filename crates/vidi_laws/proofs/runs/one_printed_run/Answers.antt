use Rattle.vidi_laws.proofs.OneRun.{one-printed_run}
use Rattle.vidi_laws.proofs.runs.one_printed_run.Goals as goal

pub returns : goal.returns
returns c = one-printed_run
