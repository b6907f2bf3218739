use Rattle.std.proofs.Common.{◌+◌, ◌-◌, ◌^◌, ◌∙◌}
use Rattle.std.proofs.Math.Facts.{Fits-lt-pow}
use Rattle.vidi_bits.proofs.ArithmeticLemmas.{mod-low, sub-low}
use Rattle.vidi_bits.proofs.arithmetic.sub_w.Goals as goal

pub returns : goal.returns
returns c = c.trim.ensures ∙ mod-low (c.args.a + (2 ^ 128 - c.args.b)) c.args.w c.requires.most
    ∙ sub-low c.args.a c.args.b c.args.w c.requires.most (Fits-lt-pow c.ranges.b)
