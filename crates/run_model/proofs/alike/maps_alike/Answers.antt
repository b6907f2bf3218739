use Rattle.run_model.proofs.Bound.{maps-alike}
use Rattle.run_model.proofs.alike.maps_alike.Goals as goal

pub returns : goal.returns
returns c = maps-alike
