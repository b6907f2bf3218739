use Rattle.run_model.proofs.Played.{driven-alike}
use Rattle.run_model.proofs.alike.driven_alike.Goals as goal

pub returns : goal.returns
returns c = driven-alike
