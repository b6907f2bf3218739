use Rattle.vidi_laws.proofs.Broken.{salvaged-replayable}
use Rattle.vidi_laws.proofs.runs.salvaged_trace_is_replayable.Goals as goal

pub returns : goal.returns
returns c = salvaged-replayable
