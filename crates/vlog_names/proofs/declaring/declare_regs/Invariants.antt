use Rattle.std.proofs.Common.{◌≡◌, ◌++◌, drop, map}
use Rattle.vlog_tree.specs.Plain.{plain_reg}
use Rattle.vlog_names.specs.Entries.{reg_entry}
use Rattle.vlog_names.specs.Twice.{twice_among}
use Rattle.vlog_names.proofs.declaring.declare_regs.Given as goal

abbrev pub invariant-loop-reg : goal.invariant-loop-reg
invariant-loop-reg l =
    let rest = map (reg_entry l.shape) (map plain_reg (drop l.reg-index l.regs)) in
    let all = map (reg_entry l.shape) (map plain_reg l.regs) in
    record {
      told : twice_among l.names rest ≡ twice_among l.initial.names all;
      kept : l.names ++ rest ≡ l.initial.names ++ all;
    }
