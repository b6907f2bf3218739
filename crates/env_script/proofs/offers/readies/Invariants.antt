use Rattle.std.proofs.Common.{◌≡◌}
use Rattle.run_model.specs.Building.{mask_of}
use Rattle.env_script.proofs.offers.readies.Given as goal

abbrev pub invariant-loop-c : goal.invariant-loop-c
invariant-loop-c g l = l.mask ≡ mask_of (λ c. (g.E.Env.current l.env c).ready) l.c
