use Rattle.vidi_laws.proofs.Faithful.{replay-faithful}
use Rattle.vidi_laws.proofs.laws.replay_is_faithful.Goals as goal

pub returns : goal.returns
returns c = replay-faithful
