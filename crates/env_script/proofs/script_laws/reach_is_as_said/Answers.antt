use Rattle.env_script.proofs.SaidLaws.{reach_said}
use Rattle.env_script.proofs.script_laws.reach_is_as_said.Goals as goal

pub returns : goal.returns
returns c = reach_said
