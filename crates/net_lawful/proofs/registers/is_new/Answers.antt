use Rattle.std.proofs.Common.{refl, sym, ◌∙◌}
use Rattle.net_code.proofs.MaskLaws.{net_is}
use Rattle.net_lawful.proofs.RegisterLaws.{first_alone}
use Rattle.net_lawful.proofs.registers.is_new.Goals as goal

pub returns : goal.returns
returns c =
    let mask = c.mask.result in (
      (λ h. sym (net_is c.args.seen.now c.args.net 0 mask c.mask.ensures) ∙ c.is_apart.ensures.0 h 0 refl),
      (λ h. c.is_apart.ensures.1 (λ k t. first_alone mask k (net_is c.args.seen.now c.args.net 0 mask c.mask.ensures ∙ h) t)),
    )
