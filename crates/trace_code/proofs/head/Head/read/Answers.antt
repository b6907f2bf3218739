use Rattle.std.proofs.Common.{◌≡◌, ◌+◌, ◌-◌, length, take, drop, sym, refl, ap, ◌∙◌, arith}
use Rattle.std.proofs.lemmas.List.{length-drop, take_all}
use Rattle.vec_clock.specs.trace_model.Length.{head_len, mask_len, sizes_under}
use Rattle.trace_code.proofs.Masks.{read-by}
use Rattle.trace_code.proofs.head.Head.read.Goals as goal

pub returns-clause-head : goal.returns-clause-head
returns-clause-head c =
    let rest = c.args.rest.now in
    let m-is = c.mask_len-len.ensures ∙ ap mask_len c.channels-channels.ensures in
    let whole : take (length rest - 3) (drop 3 rest) ≡ drop 3 rest = take_all (length rest - 3) (drop 3 rest) (omega (arith, length-drop 3 rest)) in
    record {
      tag = c.requires.row;
      masks = read-by (length c.args.self.now.sizes.items) c.mask_len-len.result _ _ (drop 3 rest) (take (length rest - 3) (drop 3 rest))
          c.split_at.result.0.now c.split_at-2.result.0.now c.split_at-2.result.1.now m-is whole c.split_at.ensures.front
          c.split_at-2.ensures.front c.split_at-2.ensures.back c.low_first-starts.ensures c.low_first-self.ensures;
    }

pub invariant_of-self : goal.invariant_of-self
invariant_of-self c =
    let h = c.args.self.now in
    let n = length h.sizes.items in
    let m-is = c.mask_len-len.ensures ∙ ap mask_len c.channels-channels.ensures in
    let head = c.head_len.ensures ∙ ap head_len c.channels-channels.ensures in
    let contents = c.starts_len.ensures ∙ ap (sizes_under c.low_first-starts.result) c.as_slice.ensures.value in
    let masks = c.split_at.result.0.now in
    record {
      some = h.some;
      few = h.few;
      small = h.small;
      len_is = ap (λ k. k + c.starts_len.result) head ∙ ap (λ k. head_len n + k) contents;
      masks_are = λ _. read-by n c.mask_len-len.result _ _ c.padded-self.result c.padded-self.result masks
          c.split_at-2.result.0.now c.split_at-2.result.1.now m-is refl
          (sym c.padded-self.ensures ∙ ap (λ k. take k c.padded-self.result) c.split_at.ensures.front_len)
          c.split_at-2.ensures.front c.split_at-2.ensures.back c.low_first-starts.ensures c.low_first-self.ensures;
    }
