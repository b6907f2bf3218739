use Rattle.std.proofs.Common.{◌≡◌, drop}
use Rattle.axi_burst.specs.Binding.{ends_from, ends_of, faults_from, port_faults}
use Rattle.axi_burst.proofs.binding.ends_of.Given as goal

abbrev pub invariant-loop-i : goal.invariant-loop-i
invariant-loop-i l = record {
  ends : ends_from l.table.channels.now l.ends (drop l.i l.table.lines.now) ≡ ends_of l.table.channels.now l.table.lines.now;
  faults : faults_from l.table.beat l.table.channels.now l.table.lines.now l.i (drop l.i l.table.lines.now)
      ≡ port_faults l.table.beat l.table.channels.now l.table.lines.now;
}
