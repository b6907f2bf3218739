use Rattle.std.proofs.Common.{◌≡◌, slice_index_or, refl}
use Rattle.std.proofs.lemmas.List.{get_or_default}
use Rattle.net_code.proofs.vidi_bits_lemmas.Bools.{not_both}
use Rattle.net_design.specs.declared.design.Register.{Register}
use Rattle.net_lawful.proofs.RegisterLaws.{seen_before, seen_more, differ_more, not_new}
use Rattle.net_lawful.proofs.registers.nets_differ.Goals as goal

pub returns-then-not-is_new : goal.returns-then-not-is_new
returns-then-not-is_new c =
    let rs = c.args.registers.now in
    let i = c.loop-register.register-index in
    let any : Register = record { net = 0; held = 0; initial = 0 } in
    let r : Register = slice_index_or rs i any in
    let is : r ≡ slice_index_or rs i r = get_or_default rs i any r c.loop-register-test.true in (
      (λ h. absurd (not_both _ h refl)),
      (λ h. absurd (seen_before rs i r c.loop-register-test.true is c.loop-register.seen c.loop-register.invariant.seen
          (not_new _ _ c.is_new.ensures c.if-not-is_new.true) h)),
    )

pub loop-register-preserved : goal.loop-register-preserved
loop-register-preserved c =
    let rs = c.args.registers.now in
    let i = c.loop-register.register-index in
    let any : Register = record { net = 0; held = 0; initial = 0 } in
    let r : Register = slice_index_or rs i any in
    let is : r ≡ slice_index_or rs i r = get_or_default rs i any r c.loop-register-test.true in
    record {
      seen = seen_more rs i r c.loop-register-test.true is c.loop-register.seen c.loop-register.invariant.seen c.add_key.new.self
          c.in_ok-add_key.ensures;
      differ = differ_more rs i r c.loop-register-test.true is c.loop-register.seen c.loop-register.invariant.seen
          (c.is_new.ensures.0 c.if-not-is_new.false) c.loop-register.invariant.differ;
    }
