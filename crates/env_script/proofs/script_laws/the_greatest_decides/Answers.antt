use Rattle.env_script.proofs.SaidLaws.{greatest_said}
use Rattle.env_script.proofs.script_laws.the_greatest_decides.Goals as goal

pub returns : goal.returns
returns c = greatest_said
