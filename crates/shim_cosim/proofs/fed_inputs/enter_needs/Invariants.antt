use Rattle.std.proofs.Common.{◌≡◌, take}
use Rattle.replay_run.specs.trace_model.Row.{replaced}
use Rattle.shim_cosim.proofs.fed_inputs.enter_needs.Given as goal

abbrev pub invariant-loop-j : goal.invariant-loop-j
invariant-loop-j l = l.pins ≡ replaced l.fn.pins l.at (take l.j l.needs)
