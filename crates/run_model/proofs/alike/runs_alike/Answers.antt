use Rattle.run_model.proofs.Played.{runs-alike}
use Rattle.run_model.proofs.alike.runs_alike.Goals as goal

pub returns : goal.returns
returns c = runs-alike
