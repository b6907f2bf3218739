use Rattle.std.proofs.Common.{◌≡◌, drop, map}
use Rattle.std.specs.List.{flat_map}
use Rattle.vlog_tree.specs.Plain.{plain_reg}
use Rattle.vlog_size.specs.Names.{readable_in}
use Rattle.vlog_scope.specs.Faults.{reg_faults}
use Rattle.vlog_scope.proofs.items.regs_fault.Given as goal

abbrev pub invariant-loop-reg : goal.invariant-loop-reg
invariant-loop-reg l = flat_map (reg_faults l.kind (readable_in l.view) l.extent) (map plain_reg (drop l.reg-index l.regs))
    ≡ flat_map (reg_faults l.kind (readable_in l.view) l.extent) (map plain_reg l.regs)
