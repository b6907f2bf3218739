use Rattle.env_script.proofs.OneReading.{one-script}
use Rattle.env_script.proofs.readings.one_script.Goals as goal

pub returns : goal.returns
returns c = one-script
