use Rattle.std.proofs.Common.{◌-◌, ◌^◌, ◌≤◌, bit_and, refl}
use Rattle.flat_registers.proofs.Held.{is_register}
use Rattle.flat_registers.proofs.register.register_of.Goals as goal

pub returns : goal.returns
returns c =
    let few : c.args.reg.now.width ≤ 128 = c.if-reg-gt128.false in
    is_register c.args.reg.now c.ones.result c.args.written (bit_and c.ones.result (2 ^ 128 - 1 - c.args.written)) few
    (c.ranges.written.fits) c.ones.ensures refl
