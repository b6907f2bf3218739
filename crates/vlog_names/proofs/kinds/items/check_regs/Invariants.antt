use Rattle.std.proofs.Common.{◌≡◌, drop, map}
use Rattle.std.specs.List.{flat_map}
use Rattle.vlog_tree.specs.Plain.{plain_reg}
use Rattle.vlog_names.specs.Uses.{in_reg}
use Rattle.vlog_names.proofs.kinds.items.check_regs.Given as goal

abbrev pub invariant-loop-reg : goal.invariant-loop-reg
invariant-loop-reg l =
    flat_map (in_reg l.names) (map plain_reg (drop l.reg-index l.regs)) ≡ flat_map (in_reg l.names) (map plain_reg l.regs)
