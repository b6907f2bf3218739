use Rattle.std.proofs.Common.{◌≡◌}
use Rattle.replay_run.specs.run_model.Building.{mask_of}
use Rattle.shim_cosim.specs.Recorded.{is_chosen}
use Rattle.shim_cosim.proofs.recorded.chosen.Given as goal

abbrev pub invariant-loop-c : goal.invariant-loop-c
invariant-loop-c l = l.mask ≡ mask_of (is_chosen l.channels l.inward l.outward) l.c
