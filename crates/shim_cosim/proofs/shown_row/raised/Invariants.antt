use Rattle.std.proofs.Common.{◌≡◌, drop}
use Rattle.replay_run.specs.run_model.Building.{mask_of}
use Rattle.shim_cosim.specs.Rewrapped.{is_raised, seat}
use Rattle.shim_cosim.proofs.shown_row.raised.Given as goal

abbrev pub invariant-loop-c : goal.invariant-loop-c
invariant-loop-c l = record {
  mask : l.mask ≡ mask_of (is_raised l.channels l.outputs l.signal) l.c;
  rest : l.rest ≡ drop (seat l.channels l.c) l.outputs;
}
