use Rattle.env_script.proofs.Lasting.{script-lasts}
use Rattle.env_script.proofs.laws.script_lasts.Goals as goal

pub returns : goal.returns
returns c = script-lasts
