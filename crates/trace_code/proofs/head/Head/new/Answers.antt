use Rattle.std.proofs.Common.{◌+◌, ap, ◌∙◌}
use Rattle.vec_clock.specs.trace_model.Length.{sizes_under}
use Rattle.trace_code.proofs.head.Head.new.Goals as goal

pub invariant_of-result : goal.invariant_of-result
invariant_of-result c =
    record {
      some = c.requires.some;
      few = c.requires.few;
      small = c.requires.small;
      len_is = ap (λ k. 3 + k) (c.starts_len-contents.ensures ∙ ap (sizes_under 0) c.as_slice.ensures.value);
      masks_are = λ row. absurd cc;
    }
