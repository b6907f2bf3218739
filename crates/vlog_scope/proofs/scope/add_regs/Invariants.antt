use Rattle.std.proofs.Common.{◌≡◌, drop, map}
use Rattle.vlog_tree.specs.Plain.{plain_reg}
use Rattle.vlog_scope.specs.Scope.{with_regs}
use Rattle.vlog_scope.proofs.scope.add_regs.Given as goal

abbrev pub invariant-loop-reg : goal.invariant-loop-reg
invariant-loop-reg l = with_regs l.extent l.scope (map plain_reg (drop l.reg-index l.regs))
    ≡ with_regs l.extent l.initial.scope (map plain_reg l.regs)
