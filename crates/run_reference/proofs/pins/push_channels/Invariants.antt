use Rattle.std.proofs.Common.{◌≡◌, ◌++◌, drop}
use Rattle.run_model.specs.Pins.{inputs_from}
use Rattle.run_reference.proofs.pins.push_channels.Given as goal

abbrev pub invariant-loop-c : goal.invariant-loop-c
invariant-loop-c l = l.out ++ inputs_from l.channels l.row l.c (drop l.c l.channels) (drop l.c l.plugs)
    ≡ l.initial.out ++ inputs_from l.channels l.row 0 l.channels l.plugs
