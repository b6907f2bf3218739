use Rattle.vidi_laws.proofs.Headline.{recorded-replayable}
use Rattle.vidi_laws.proofs.runs.recorded_trace_is_replayable.Goals as goal

pub returns : goal.returns
returns c = recorded-replayable
