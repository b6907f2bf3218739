use Rattle.std.proofs.Common.{◌≡◌, ℕ, drop, map}
use Rattle.std.specs.List.{flat_map}
use Rattle.vlog_tree.specs.Tree.{Reg1Of}
use Rattle.vlog_tree.specs.Plain.{plain_reg}
use Rattle.flat_parts.specs.vlog_driver.Placed.{names_at}
use Rattle.flat_parts.specs.vlog_driver.Next.{reg_initials}
use Rattle.flat_registers.specs.Tables.{with_entries}
use Rattle.flat_registers.proofs.initials.add_regs.Given as goal

abbrev pub invariant-loop-reg : goal.invariant-loop-reg
invariant-loop-reg l =
    let own = λ (g : Reg1Of ℕ). reg_initials (names_at l.scope l.declared) l.scope g.id g.tail in
    with_entries l.numbers (flat_map own (map plain_reg (drop l.reg-index l.regs)))
    ≡ with_entries l.initial.numbers (flat_map own (map plain_reg l.regs))
