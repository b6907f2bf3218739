use Rattle.shim_step.proofs.Recording.{records_rows}
use Rattle.shim_step.proofs.RecordResets.{records_resets, records_begin}
use Rattle.shim_step.proofs.laws.recording_steps.Goals as goal

pub returns-clause-rows : goal.returns-clause-rows
returns-clause-rows c = records_rows

pub returns-clause-resets : goal.returns-clause-resets
returns-clause-resets c = records_resets

pub returns-clause-begin : goal.returns-clause-begin
returns-clause-begin c = records_begin
