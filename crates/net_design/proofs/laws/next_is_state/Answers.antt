use Rattle.net_design.proofs.StateLaws.{next_state}
use Rattle.net_design.proofs.laws.next_is_state.Goals as goal

pub returns : goal.returns
returns c = λ d v s law state. next_state d law v s state
