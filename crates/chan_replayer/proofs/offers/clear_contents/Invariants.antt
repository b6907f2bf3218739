use Rattle.chan_replayer.proofs.FedOffers.{AreMade}
use Rattle.chan_replayer.proofs.offers.clear_contents.Given as goal

abbrev pub invariant-loop-c : goal.invariant-loop-c
invariant-loop-c l = AreMade l.channels l.valids l.fn.contents l.contents l.c l.at
