use Rattle.std.proofs.Common.{◌≡◌, drop}
use Rattle.chan_map.specs.Reasons.{width_faults}
use Rattle.chan_map.proofs.limits.check_widths.Given as goal

abbrev pub invariant-loop-c : goal.invariant-loop-c
invariant-loop-c l = width_faults (drop l.c-index l.channels) ≡ width_faults l.channels
