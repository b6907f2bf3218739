use Rattle.vidi_laws.proofs.Headline.{hides-no_gate}
use Rattle.vidi_laws.proofs.runs.recording_hides_no_gate.Goals as goal

pub returns : goal.returns
returns c = hides-no_gate
