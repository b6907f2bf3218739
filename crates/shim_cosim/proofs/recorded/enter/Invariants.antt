use Rattle.std.proofs.Common.{◌≡◌, drop}
use Rattle.replay_run.proofs.trace_model_lemmas.RowLemmas.{first_of}
use Rattle.replay_run.specs.chan_monitor.Entering.{offered}
use Rattle.shim_cosim.proofs.Entering.{AreEntered}
use Rattle.shim_cosim.proofs.recorded.enter.Given as goal

abbrev pub invariant-loop-c : goal.invariant-loop-c
invariant-loop-c l = record {
  rest : l.rest ≡ drop (first_of l.channels l.c) l.offers.contents;
  entered : AreEntered l.channels (offered l.gates l.offers) l.first l.fn.pins l.pins l.c l.at;
}
