use Rattle.std.proofs.Common.{◌∙◌}
use Rattle.net_code.proofs.MaskLaws.{net_is}
use Rattle.net_lawful.proofs.RegisterLaws.{framed_width}
use Rattle.net_lawful.proofs.DrivenLaws.{framed_some, net_driven_is}
use Rattle.net_lawful.proofs.driven.is_net_driven.Goals as goal

pub are_driven-requires-clause-some : goal.are_driven-requires-clause-some
are_driven-requires-clause-some c =
    rw c.net_width-width.ensures (framed_some c.args.design.now c.requires.framed c.args.m c.requires.there)

pub are_driven-requires-clause-most : goal.are_driven-requires-clause-most
are_driven-requires-clause-most c = rw c.net_width-width.ensures (framed_width c.args.design.now c.requires.framed c.args.m)

pub returns : goal.returns
returns c =
    let d = c.args.design.now in
    let m = c.args.m in
    let e = net_driven_is d m c.is_input-input.result c.net_width-width.result c.mask.result c.mask-2.result c.mask-3.result
    c.is_input-input.ensures c.net_width-width.ensures
    (λ k. net_is c.args.held.now m k c.mask.result c.mask.ensures ∙ c.requires.held m k)
    (λ k. net_is c.args.tally.now.once m k c.mask-2.result c.mask-2.ensures ∙ c.requires.tally.once m k)
    (λ k. net_is c.args.tally.now.more m k c.mask-3.result c.mask-3.ensures ∙ c.requires.tally.more m k) in
    ((λ h. e.0 (c.are_driven.ensures.0 h)), (λ h. c.are_driven.ensures.1 (e.1 h)))
