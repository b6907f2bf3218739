use Rattle.std.proofs.Common.{◌≡◌, ◌^◌, ◌<◌, get_or, length, ap, ◌∙◌, arith}
use Rattle.std.proofs.lemmas.List.{get_or_default}
use Rattle.net_design.specs.declared.act.Mask.{Mask}
use Rattle.net_code.specs.Moved.{moved_mask}
use Rattle.net_code.proofs.Lists.{one_more, others_all}
use Rattle.net_code.proofs.moved.move_masks.Goals as goal

pub loop-mask-preserved : goal.loop-mask-preserved
loop-mask-preserved c =
    let l = c.loop-mask in
    let all = c.as_mut_slice-mask-items in
    let f = moved_mask c.args.base.net c.args.base.word in
    let none : Mask = record { net = 0; bits = 0 } in
    let x : Mask = get_or l.mask-items l.mask-index none in
    let here : l.mask-index < length l.mask-items = omega (arith, c.loop-mask-test.true, l.auto.mask-items) in
    let is : x ≡ get_or l.mask-items l.mask-index x = get_or_default l.mask-items l.mask-index none x here in
    record {
      same = one_more f c.args.masks.now l.mask-items all.result.now l.mask-index x c.move_mask.new.mask
          c.loop-mask-test.true all.ensures.value l.invariant.same is (c.move_mask.ensures ∙ ap f is);
      near =
          others_all f c.args.masks.now l.mask-items all.result.now l.mask-index x c.move_mask.new.mask
          (λ (m : Mask). m.net < 2 ^ 32) l.invariant.near;
    }
