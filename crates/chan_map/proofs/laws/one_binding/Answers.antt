use Rattle.chan_map.proofs.OneBinding.{one-binding}
use Rattle.chan_map.proofs.laws.one_binding.Goals as goal

pub returns : goal.returns
returns c = one-binding
