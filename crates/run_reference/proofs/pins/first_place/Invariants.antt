use Rattle.std.proofs.Common.{◌≡◌, length, take}
use Rattle.run_model.specs.trace_model.Row.{all_widths}
use Rattle.run_reference.proofs.pins.first_place.Given as goal

abbrev pub invariant-loop-i : goal.invariant-loop-i
invariant-loop-i l = l.first ≡ length (all_widths (take l.i l.channels))
