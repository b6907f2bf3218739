use Rattle.std.proofs.Common.{◌≡◌, ◌+◌, ◌==◌, ◌<◌, Some, ap, sym, ◌∙◌, arith}
use Rattle.std.proofs.lemmas.Bool.{not-false, not-true}
use Rattle.net_code.proofs.MaskLaws.{net_is}
use Rattle.net_code.specs.vidi_bits.Findings.{first}
use Rattle.net_code.specs.vidi_bits.Number.{has, truth}
use Rattle.net_drive.specs.declared.findings.Misdriven.{Misdriven}
use Rattle.net_code.specs.Targets.{plain_places, bit_count}
use Rattle.net_drive.specs.Drive.{bit_faults}
use Rattle.net_drive.specs.Tallied.{exact}
use Rattle.net_drive.proofs.Exact.{counted, fine, bad}
use Rattle.net_drive.proofs.drive.first_bit.Goals as goal

pub returns-then-is_wrong : goal.returns-then-is_wrong
returns-then-is_wrong c =
    let ps = plain_places c.args.places.now in
    let k = c.loop-k.k in
    let small : k < 128 = omega (arith, c.loop-k-test.true, c.capped-width.ensures) in
    let e : exact c.args.pin (has c.mask-once.result k) (has c.mask-more.result k) ≡ (truth c.args.pin + bit_count ps c.args.net k == 1) =
    counted c.args.pin (bit_count ps c.args.net k) (has c.mask-once.result k) (has c.mask-more.result k)
    (net_is c.args.tally.now.once c.args.net k c.mask-once.result c.mask-once.ensures ∙ c.requires.once c.args.net k small)
    (net_is c.args.tally.now.more c.args.net k c.mask-more.result c.mask-more.ensures ∙ c.requires.more c.args.net k small) in
    ap (λ (x : Misdriven). Some x) c.bit_fault.ensures
    ∙ sym (bad ps c.args.net (truth c.args.pin) k c.capped-width.result c.loop-k-test.true
    (sym e ∙ not-true _ (sym c.is_wrong.ensures ∙ c.if-is_wrong.true)))
    ∙ c.loop-k.invariant ∙ ap (λ w. first (bit_faults ps c.args.net (truth c.args.pin) 0 w)) c.capped-width.ensures

pub loop-k-preserved : goal.loop-k-preserved
loop-k-preserved c =
    let ps = plain_places c.args.places.now in
    let k = c.loop-k.k in
    let small : k < 128 = omega (arith, c.loop-k-test.true, c.capped-width.ensures) in
    let e : exact c.args.pin (has c.mask-once.result k) (has c.mask-more.result k) ≡ (truth c.args.pin + bit_count ps c.args.net k == 1) =
    counted c.args.pin (bit_count ps c.args.net k) (has c.mask-once.result k) (has c.mask-more.result k)
    (net_is c.args.tally.now.once c.args.net k c.mask-once.result c.mask-once.ensures ∙ c.requires.once c.args.net k small)
    (net_is c.args.tally.now.more c.args.net k c.mask-more.result c.mask-more.ensures ∙ c.requires.more c.args.net k small) in
    sym (ap first (fine ps c.args.net (truth c.args.pin) k c.capped-width.result c.loop-k-test.true
    (sym e ∙ not-false _ (sym c.is_wrong.ensures ∙ c.if-is_wrong.false))))
    ∙ c.loop-k.invariant
