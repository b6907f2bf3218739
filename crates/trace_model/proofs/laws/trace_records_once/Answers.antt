use Rattle.trace_model.proofs.TraceLaws.{trace-records}
use Rattle.trace_model.proofs.laws.trace_records_once.Goals as goal

pub returns : goal.returns
returns c = trace-records
