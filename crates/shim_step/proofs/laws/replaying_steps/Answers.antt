use Rattle.shim_step.proofs.Replaying.{replays_rows}
use Rattle.shim_step.proofs.ReplayResets.{replays_resets, replays_begin}
use Rattle.shim_step.proofs.laws.replaying_steps.Goals as goal

pub returns-clause-rows : goal.returns-clause-rows
returns-clause-rows c = replays_rows

pub returns-clause-resets : goal.returns-clause-resets
returns-clause-resets c = replays_resets

pub returns-clause-begin : goal.returns-clause-begin
returns-clause-begin c = replays_begin
