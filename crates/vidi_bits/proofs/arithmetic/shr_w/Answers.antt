use Rattle.std.proofs.Common.{sym, arith}
use Rattle.vidi_bits.proofs.ArithmeticLemmas.{shifted-out_right}
use Rattle.vidi_bits.proofs.arithmetic.shr_w.Goals as goal

pub returns-then-n-from : goal.returns-then-n-from
returns-then-n-from c = sym (shifted-out_right c.args.a c.args.n c.args.w c.requires.fits (omega arith))
