use Rattle.shim_cosim.proofs.ShownRow.{AreFilled}
use Rattle.shim_cosim.proofs.shown_row.fill_contents.Given as goal

abbrev pub invariant-loop-c : goal.invariant-loop-c
invariant-loop-c l = AreFilled l.channels l.valids l.fed l.outputs l.contents l.c l.at l.rest
