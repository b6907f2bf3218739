use Rattle.std.proofs.Common.{◌≡◌, drop, map}
use Rattle.std.specs.List.{flat_map}
use Rattle.vlog_tree.specs.Plain.{plain_reg}
use Rattle.vlog_names.specs.Unknown.{unknown_reg}
use Rattle.vlog_names.proofs.items.known_regs.Given as goal

abbrev pub invariant-loop-reg : goal.invariant-loop-reg
invariant-loop-reg l =
    flat_map (unknown_reg l.names) (map plain_reg (drop l.reg-index l.regs)) ≡ flat_map (unknown_reg l.names) (map plain_reg l.regs)
