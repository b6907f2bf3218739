use Rattle.std.proofs.Common.{◌≡◌}
use Rattle.run_model.specs.Building.{mask_of}
use Rattle.run_reference.specs.Feed.{is_offered}
use Rattle.run_reference.proofs.replay.offered.Given as goal

abbrev pub invariant-loop-c : goal.invariant-loop-c
invariant-loop-c l = l.mask ≡ mask_of (is_offered l.channels l.packets l.rows l.kind) l.c
