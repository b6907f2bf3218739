use Rattle.std.proofs.Common.{get_or}
use Rattle.flat_parts.specs.State.{IsRegisterOf}
use Rattle.flat_registers.specs.declared.places.RegNet.{RegNet}
use Rattle.flat_registers.proofs.Held.{register_more, written_at}
use Rattle.flat_registers.proofs.register.registers_of.Goals as goal

pub loop-reg-preserved : goal.loop-reg-preserved
loop-reg-preserved c = λ drivers same.
    let regs = c.args.regs.now in
    let i = c.loop-reg.reg-index in
    let none : RegNet = record { net = 0; width = 0; initial = 0 } in
    register_more (IsRegisterOf drivers) regs i none c.loop-reg.out c.push.new.self c.in_ok-register.register c.loop-reg-test.true
    c.in_ok-push.ensures.ok (c.loop-reg.invariant drivers same)
    (c.in_ok-register.ensures drivers (written_at c.args.written.now (get_or regs i none).net c.mask.result drivers c.mask.ensures same))
