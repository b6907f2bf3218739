use Rattle.shim_step.proofs.OneRow.{states_settle_once, ordered_settle_once, one_recorded_row, one_replayed_row}
use Rattle.shim_step.proofs.laws.one_shown_row.Goals as goal

pub returns-clause-recorded : goal.returns-clause-recorded
returns-clause-recorded c = one_recorded_row

pub returns-clause-replayed : goal.returns-clause-replayed
returns-clause-replayed c = one_replayed_row

pub returns-clause-states : goal.returns-clause-states
returns-clause-states c = states_settle_once

pub returns-clause-ordered : goal.returns-clause-ordered
returns-clause-ordered c = ordered_settle_once
