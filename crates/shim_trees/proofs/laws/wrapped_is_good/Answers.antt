use Rattle.shim_trees.proofs.Wrapped.{wrapped_good}
use Rattle.shim_trees.proofs.laws.wrapped_is_good.Goals as goal

pub returns : goal.returns
returns c = wrapped_good
