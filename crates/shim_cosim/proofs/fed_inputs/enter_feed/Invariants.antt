use Rattle.shim_cosim.proofs.FedInputs.{AreEntered}
use Rattle.shim_cosim.proofs.fed_inputs.enter_feed.Given as goal

abbrev pub invariant-loop-c : goal.invariant-loop-c
invariant-loop-c l = AreEntered l.channels l.feed l.fn.pins l.pins l.first l.c l.at l.rest
