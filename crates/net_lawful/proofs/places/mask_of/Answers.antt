use Rattle.std.proofs.Common.{ap, ◌==◌, ◌&&◌}
use Rattle.net_lawful.proofs.places.mask_of.Goals as goal

pub returns : goal.returns
returns c = λ m k. ap (λ b. (c.args.span.net == m) && b) (c.span_mask-bits.ensures k)
