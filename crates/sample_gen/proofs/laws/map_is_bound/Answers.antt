use Rattle.sample_gen.proofs.Binding.{map_bound}
use Rattle.sample_gen.proofs.laws.map_is_bound.Goals as goal

pub returns : goal.returns
returns c = map_bound
