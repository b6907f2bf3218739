use Rattle.std.proofs.Common.{ap, ◌∙◌}
use Rattle.net_code.specs.vidi_bits.Number.{has, put_of}
use Rattle.net_drive.proofs.Tallies.{no_width, wide_span}
use Rattle.net_drive.proofs.tally.bits_from.Goals as goal

pub returns-then-width-eq0 : goal.returns-then-width-eq0
returns-then-width-eq0 c = λ k l. no_width c.args.low c.args.width k c.if-width-eq0.true

pub returns : goal.returns
returns c = λ k l.
    ap (λ n. has n k) (c.put.ensures ∙ ap (λ x. put_of 0 c.args.low c.args.width x) c.ones.ensures) ∙ wide_span c.args.low c.args.width k l
