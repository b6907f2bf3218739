use Rattle.std.proofs.Common.{arith}
use Rattle.vidi_bits.proofs.ArithmeticLemmas.{side_by_side}
use Rattle.vidi_bits.proofs.bits.join.Goals as goal

pub returns : goal.returns
returns c = rw c.trim.ensures (side_by_side c.args.high c.args.low c.args.w (omega arith) c.requires.fits)
