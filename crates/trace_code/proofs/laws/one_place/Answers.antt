use Rattle.trace_code.proofs.Readings as readings
use Rattle.trace_code.proofs.laws.one_place.Goals as goal

pub returns : goal.returns
returns c = readings.one_place
