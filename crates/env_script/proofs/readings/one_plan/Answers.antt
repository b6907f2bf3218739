use Rattle.env_script.proofs.OneReading.{one-plan}
use Rattle.env_script.proofs.readings.one_plan.Goals as goal

pub returns : goal.returns
returns c = one-plan
