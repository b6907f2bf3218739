use Rattle.std.proofs.Common.{◌≡◌, ◌<◌, get_or, length, ◌∙◌}
use Rattle.std.proofs.lemmas.List.{get_or_default}
use Rattle.net_design.specs.declared.act.Mask.{Mask}
use Rattle.net_code.proofs.FoundLaws.{masks_narrowed}
use Rattle.net_code.proofs.code_bits.narrow.Goals as goal

pub loop-mask-preserved : goal.loop-mask-preserved
loop-mask-preserved c = λ m k.
    let l = c.loop-mask in
    let masks = c.args.masks.now in
    let none : Mask = record { net = 0; bits = 0 } in
    let x : Mask = get_or masks l.mask-index none in
    let here : l.mask-index < length masks = c.loop-mask-test.true in
    let is : x ≡ get_or masks l.mask-index x = get_or_default masks l.mask-index none x here in
    masks_narrowed c.args.known.now masks l.out c.push_mask.new.out l.mask-index x c.mask.result here is c.mask.ensures
    c.in_ok-push_mask.ensures m k
    ∙ l.invariant m k
