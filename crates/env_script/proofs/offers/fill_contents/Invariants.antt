use Rattle.env_script.specs.Offered.{numbers_on}
use Rattle.env_script.proofs.Filling.{AreFilled}
use Rattle.env_script.proofs.offers.fill_contents.Given as goal

abbrev pub invariant-loop-c : goal.invariant-loop-c
invariant-loop-c g l = AreFilled l.channels (numbers_on l.channels (g.E.Env.current l.env)) l.fn.contents l.contents l.c l.at
