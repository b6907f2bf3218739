use Rattle.std.proofs.Common.{◌≡◌, drop, take, length}
use Rattle.run_model.specs.trace_model.Row.{all_widths}
use Rattle.run_model.specs.Pins.{inputs_from}
use Rattle.chan_monitor.specs.Entering.{write, offered}
use Rattle.chan_monitor.proofs.pins.enter.Given as goal

abbrev pub invariant-loop-c : goal.invariant-loop-c
invariant-loop-c l = record {
  rest : l.rest ≡ drop (length (all_widths (take l.c l.channels))) l.offers.contents;
  pins : write l.pins (inputs_from l.channels (offered l.gates l.offers) l.c (drop l.c l.channels) (drop l.c l.plugs))
      ≡ write l.fn.pins (inputs_from l.channels (offered l.gates l.offers) 0 l.channels l.plugs);
}
