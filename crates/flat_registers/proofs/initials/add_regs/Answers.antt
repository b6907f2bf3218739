use Rattle.std.proofs.Common.{ℕ, map}
use Rattle.std.specs.List.{flat_map}
use Rattle.vlog_tree.specs.Tree.{Reg1Of}
use Rattle.vlog_tree.specs.Plain.{plain_reg}
use Rattle.flat_parts.specs.vlog_driver.Placed.{names_at}
use Rattle.flat_parts.specs.vlog_driver.Next.{reg_initials}
use Rattle.flat_registers.specs.Tables.{with_entries}
use Rattle.flat_registers.proofs.Entries.{entries_step}
use Rattle.flat_registers.proofs.initials.add_regs.Goals as goal

pub loop-reg-preserved : goal.loop-reg-preserved
loop-reg-preserved c =
    let own = λ (g : Reg1Of ℕ). reg_initials (names_at c.args.scope.now c.args.declared) c.args.scope.now g.id g.tail in
    entries_step own plain_reg c.args.regs.now c.loop-reg.reg-index c.reg-item.result c.loop-reg.numbers c.add_reg.new.numbers
    (with_entries c.args.numbers.now (flat_map own (map plain_reg c.args.regs.now)))
    c.loop-reg-test.true c.reg-item.is c.in_ok-add_reg.ensures c.loop-reg.invariant
