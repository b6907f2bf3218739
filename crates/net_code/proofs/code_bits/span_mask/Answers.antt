use Rattle.std.proofs.Common.{ap, ◌∙◌}
use Rattle.net_design.specs.vidi_bits.Number.{has, put_of}
use Rattle.net_code.proofs.MaskLaws.{has_span}
use Rattle.net_code.proofs.code_bits.span_mask.Goals as goal

pub returns : goal.returns
returns c = λ k.
    ap (λ n. has n k) (c.put.ensures ∙ ap (λ x. put_of 0 c.args.span.low c.args.span.width x) c.ones.ensures)
    ∙ has_span c.args.span.low c.args.span.width k c.requires
