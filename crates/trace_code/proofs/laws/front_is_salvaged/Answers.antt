use Rattle.trace_code.proofs.Fronts as fronts
use Rattle.trace_code.proofs.laws.front_is_salvaged.Goals as goal

pub returns : goal.returns
returns c = fronts.front_is_salvaged
