use Rattle.shim_step.proofs.OneRow.{records_each, replays_each}
use Rattle.shim_step.proofs.laws.shown_rows_stand.Goals as goal

pub returns-clause-records : goal.returns-clause-records
returns-clause-records c = records_each

pub returns-clause-replays : goal.returns-clause-replays
returns-clause-replays c = replays_each
