use Rattle.trace_v2.proofs.OldReadings as readings
use Rattle.trace_v2.proofs.laws.one_old_salvage.Goals as goal

pub returns : goal.returns
returns c = readings.one_old_salvage
