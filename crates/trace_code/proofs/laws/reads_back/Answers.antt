use Rattle.trace_code.proofs.Readings as readings
use Rattle.trace_code.proofs.laws.reads_back.Goals as goal

pub returns : goal.returns
returns c = readings.reads_back
