use Rattle.run_model.proofs.MapLaws.{bound-is_map_of}
use Rattle.run_model.proofs.laws.bound_is_map_of.Goals as goal

pub returns : goal.returns
returns c = bound-is_map_of
