use Rattle.std.proofs.Common.{◌∙◌}
use Rattle.net_drive.proofs.Tallies.{capped_span}
use Rattle.net_drive.proofs.tally.span_bits.Goals as goal

pub returns : goal.returns
returns c = λ k l. c.bits_from.ensures k l ∙ capped_span c.args.span.low c.args.span.width c.capped-width.result k l c.capped-width.ensures
