use Rattle.std.proofs.Common.{◌≡◌, ◌≤◌, ◌+◌, ◌++◌, length, drop}
use Rattle.env_script.specs.Plan.{AreSome}
use Rattle.env_script.specs.Stalls.{drain_faults, all_drains}
use Rattle.env_script.proofs.stall_lines.read_drains.Given as goal

abbrev pub invariant-loop-line : goal.invariant-loop-line
invariant-loop-line l = record {
  number : l.number ≡ l.first + l.line-index;
  faults : drain_faults l.first l.lines ≡ drain_faults l.number (drop l.line-index l.lines);
  all : all_drains l.lines ≡ l.drains ++ all_drains (drop l.line-index l.lines);
  some : AreSome l.drains;
  few : length l.drains ≤ l.line-index;
}
