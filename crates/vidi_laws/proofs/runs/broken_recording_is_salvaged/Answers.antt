use Rattle.vidi_laws.proofs.Broken.{broken-salvaged}
use Rattle.vidi_laws.proofs.runs.broken_recording_is_salvaged.Goals as goal

pub returns : goal.returns
returns c = broken-salvaged c.front_is_salvaged.ensures
