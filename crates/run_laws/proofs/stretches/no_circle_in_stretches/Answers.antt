use Rattle.run_laws.proofs.StretchLaws.{no-circle_in_stretches}
use Rattle.run_laws.proofs.stretches.no_circle_in_stretches.Goals as goal

pub returns : goal.returns
returns c = no-circle_in_stretches
