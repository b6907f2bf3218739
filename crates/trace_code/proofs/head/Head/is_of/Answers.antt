use Rattle.std.proofs.Common.{◌≡◌, ◌-◌, ◌*◌, length, take, drop, refl, sym, ap, ◌∙◌, arith}
use Rattle.std.proofs.lemmas.List.{length-drop, length-take-le, take_all}
use Rattle.vec_clock.specs.trace_model.Length.{mask_len}
use Rattle.trace_code.proofs.Masks.{of-head}
use Rattle.trace_code.proofs.head.Head.is_of.Goals as goal

pub returns : goal.returns
returns c same =
    let h = c.args.self.now in
    let rest = c.args.rest.now in
    let n = length h.sizes.items in
    let m = c.mask_len-len.result in
    let whole : take (length rest - 3) (drop 3 rest) ≡ drop 3 rest = take_all (length rest - 3) (drop 3 rest) (omega (arith, length-drop 3 rest)) in
    let m-is : m ≡ mask_len n = c.mask_len-len.ensures ∙ ap mask_len c.channels.ensures in
    let few = h.few in
    let long : length h.masks ≡ 32 = omega arith in
    of-head n m h.reset h.starts h.ends rest (take (length rest - 3) (drop 3 rest)) (take (2 * m) h.masks) h.masks c.if-self.false c.if-rest-ne1.false
    (h.masks_are c.if-self.false) m-is refl (length-take-le (2 * m) h.masks (omega (arith, m-is, few, long))) whole
    (sym same ∙ c.starts_with.ensures.value)
