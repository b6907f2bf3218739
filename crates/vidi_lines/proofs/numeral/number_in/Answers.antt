use Rattle.std.proofs.Common.{sym, ◌∙◌}
use Rattle.vidi_lines.proofs.Digits.{read_none}
use Rattle.vidi_lines.proofs.numeral.number_in.Goals as goal

pub returns-in_err-n : goal.returns-in_err-n
returns-in_err-n c = rw c.from_residual.ensures
    (sym (c.loop-b.invariant.1 ∙ read_none c.args.base c.loop-b.n c.loop-b.b-index c.args.text.now c.requires c.loop-b-test.true
    (sym c.in_err-n.ensures)))
