use Rattle.vidi_laws.proofs.Headline.{recorded-short}
use Rattle.vidi_laws.proofs.runs.recorded_trace_is_short.Goals as goal

pub returns : goal.returns
returns c = recorded-short
