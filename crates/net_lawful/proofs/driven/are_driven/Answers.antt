use Rattle.std.proofs.Common.{ℕ, ◌-◌, ◌^◌, ◌<◌, bit_and, sym, subst}
use Rattle.net_lawful.proofs.DrivenLaws.{IsRest, input_driven, other_driven, rest_bits}
use Rattle.net_lawful.proofs.driven.are_driven.Goals as goal

pub returns-then-input : goal.returns-then-input
returns-then-input c = input_driven c.args.input c.args.width c.args.held c.args.once c.args.more c.if-input.true

pub returns : goal.returns
returns c =
    let some = c.ones.result in
    let others : ℕ = 2 ^ 128 - 1 - c.args.held in
    let small : 2 ^ c.args.width - 1 < 2 ^ 128 = subst (λ n. n < 2 ^ 128) c.ones.ensures c.ones.type_inv in
    let bits : IsRest c.args.width c.args.held (bit_and some others) = subst (λ n. IsRest c.args.width c.args.held (bit_and n others))
    (sym c.ones.ensures) (rest_bits c.args.width c.args.held small c.ranges.held.fits) in
    let e = other_driven c.args.input c.args.width c.args.held c.args.once c.args.more (bit_and some others) c.if-input.false bits in
    ((λ h. e.0 (c.rest_driven.ensures.0 h)), (λ h. c.rest_driven.ensures.1 (e.1 h)))
