use Rattle.vidi_recorder.proofs.Kept.{no-hidden_gate}
use Rattle.vidi_recorder.proofs.laws.no_hidden_gate.Goals as goal

pub returns : goal.returns
returns c = no-hidden_gate
