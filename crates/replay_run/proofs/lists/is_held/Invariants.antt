use Rattle.std.proofs.Common.{◌≡◌, drop}
use Rattle.run_stage.specs.run_model.Held.{is_held}
use Rattle.replay_run.proofs.lists.is_held.Given as goal

abbrev pub invariant-loop-held : goal.invariant-loop-held
invariant-loop-held l = is_held (drop l.held-index l.helds) l.event ≡ is_held l.helds l.event
