use Rattle.std.proofs.Common.{◌≡◌, drop}
use Rattle.chan_map.specs.Reasons.{port_faults}
use Rattle.chan_map.proofs.fits.check_lines.Given as goal

abbrev pub invariant-loop-l : goal.invariant-loop-l
invariant-loop-l l = port_faults l.top.design.now (drop l.l-index l.lines) ≡ port_faults l.top.design.now l.lines
