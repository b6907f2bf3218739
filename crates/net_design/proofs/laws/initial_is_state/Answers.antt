use Rattle.net_design.proofs.StateLaws.{initial_state}
use Rattle.net_design.proofs.laws.initial_is_state.Goals as goal

pub returns : goal.returns
returns c = initial_state
