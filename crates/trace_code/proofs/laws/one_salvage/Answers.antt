use Rattle.trace_code.proofs.Fronts as fronts
use Rattle.trace_code.proofs.laws.one_salvage.Goals as goal

pub returns : goal.returns
returns c = fronts.one_salvage
