use Rattle.std.proofs.Common.{sym, ◌∙◌}
use Rattle.net_code.proofs.MaskLaws.{net_is}
use Rattle.net_lawful.proofs.masks.mask_within.Goals as goal

pub returns : goal.returns
returns c = (
  (λ h k t. sym (net_is c.args.set.now c.args.mask.net k c.mask.result c.mask.ensures) ∙ c.is_within.ensures.0 h k t),
  (λ h. c.is_within.ensures.1 (λ k t. net_is c.args.set.now c.args.mask.net k c.mask.result c.mask.ensures ∙ h k t)),
)
