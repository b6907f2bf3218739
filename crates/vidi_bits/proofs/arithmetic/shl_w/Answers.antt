use Rattle.std.proofs.Common.{◌*◌, ◌^◌, sym, arith}
use Rattle.vidi_bits.proofs.ArithmeticLemmas.{mod-low, shifted-out_left}
use Rattle.vidi_bits.proofs.arithmetic.shl_w.Goals as goal

pub returns-then-n-from : goal.returns-then-n-from
returns-then-n-from c = sym (shifted-out_left c.args.a c.args.n c.args.w (omega arith))

pub returns : goal.returns
returns c = rw c.trim.ensures (mod-low (c.args.a * 2 ^ c.args.n) c.args.w c.requires.most)
