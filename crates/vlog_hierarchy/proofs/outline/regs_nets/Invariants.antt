use Rattle.std.proofs.Common.{◌≡◌, ◌≤◌, ◌+◌, map, drop}
use Rattle.std.specs.List.{sum_by}
use Rattle.vlog_tree.specs.Plain.{plain_reg}
use Rattle.vlog_hierarchy.specs.Outlines.{reg_nets}
use Rattle.vlog_hierarchy.proofs.outline.regs_nets.Given as goal

abbrev pub invariant-loop-reg : goal.invariant-loop-reg
invariant-loop-reg l = record {
  sum : l.nets + sum_by reg_nets (map plain_reg (drop l.reg-index l.regs)) ≡ sum_by reg_nets (map plain_reg l.regs);
  few : l.nets ≤ l.reg-index;
}
