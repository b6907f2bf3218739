use Rattle.replay_run.specs.Lists.{AreSpare}
use Rattle.replay_run.proofs.lists.spare_lists.Given as goal

abbrev pub invariant-loop : goal.invariant-loop
invariant-loop l = AreSpare l.channels l.counter l.spare.items
