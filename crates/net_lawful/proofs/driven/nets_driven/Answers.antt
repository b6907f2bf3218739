use Rattle.std.proofs.Common.{refl, arith}
use Rattle.net_code.proofs.vidi_bits_lemmas.Bools.{not_both}
use Rattle.net_lawful.specs.Driven.{IsNetDriven}
use Rattle.net_lawful.proofs.DrivenLaws.{all_nets, next_below}
use Rattle.net_lawful.proofs.driven.nets_driven.Goals as goal

pub returns-then-not-is_net_driven : goal.returns-then-not-is_net_driven
returns-then-not-is_net_driven c =
    let e = all_nets c.args.design.now c.requires.framed c.requires.state in (
      (λ h. absurd (not_both _ h refl)),
      (λ h. absurd (not_both _ (c.is_net_driven.ensures.1 (e.1 h c.loop-m.m (omega (arith, c.loop-m-test.true, c.len-m-end.ensures))))
          c.if-not-is_net_driven.true)),
    )

pub loop-m-preserved : goal.loop-m-preserved
loop-m-preserved c =
    next_below (IsNetDriven c.args.design.now) c.loop-m.m c.loop-m.invariant (c.is_net_driven.ensures.0 c.if-not-is_net_driven.false)

pub returns : goal.returns
returns c =
    let e = all_nets c.args.design.now c.requires.framed c.requires.state in (
      (λ h. e.0 (λ m l. c.loop-m.invariant m (omega (arith, l, c.loop-m-test.false, c.len-m-end.ensures)))),
      (λ h. refl),
    )
