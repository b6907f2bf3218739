use Rattle.std.proofs.Common.{arith}
use Rattle.wave_text.proofs.Eights.{highest}
use Rattle.wave_text.proofs.value_lines.digits_of.Goals as goal

pub returns-clause-fits : goal.returns-clause-fits
returns-clause-fits c =
    let few = (highest c.args.byte c.ilog2.result c.requires c.ilog2.ensures.power_le c.ilog2.ensures.next_power_gt).few in
    omega (arith, few)

pub returns-clause-value : goal.returns-clause-value
returns-clause-value c = (highest c.args.byte c.ilog2.result c.requires c.ilog2.ensures.power_le c.ilog2.ensures.next_power_gt).digits
