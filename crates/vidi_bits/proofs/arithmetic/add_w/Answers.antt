use Rattle.std.proofs.Common.{◌+◌, ◌∙◌}
use Rattle.vidi_bits.proofs.ArithmeticLemmas.{mod-low}
use Rattle.vidi_bits.proofs.arithmetic.add_w.Goals as goal

pub returns : goal.returns
returns c = c.trim.ensures ∙ mod-low (c.args.a + c.args.b) c.args.w c.requires.most
