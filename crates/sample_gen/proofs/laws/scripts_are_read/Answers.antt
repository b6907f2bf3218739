use Rattle.sample_gen.proofs.Scripts.{scripts_read}
use Rattle.sample_gen.proofs.laws.scripts_are_read.Goals as goal

pub returns : goal.returns
returns c = scripts_read
