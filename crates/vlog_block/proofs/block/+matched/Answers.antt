use Rattle.std.proofs.Common.{arith}
use Rattle.vlog_tree.specs.Plain.{plain_expr}
use Rattle.vlog_block.specs.Sources.{names_of}
use Rattle.vlog_block.specs.Extends.{IsNarrow}
use Rattle.vlog_block.proofs.Labels.{all_front, all_back, half_below, half_more}
use Rattle.vlog_block.proofs.block.+matched.Goals as goal

pub matched-requires : goal.matched-requires
matched-requires t c = (
  omega (arith, c.split_at.ensures.front_len, half_below _ c.in-len2-up.len_at_least, c.decreases),
  (
    c.requires.subject,
    (
      all_front (λ e. IsNarrow (names_of c.args.scope.now) c.args.w e) plain_expr c.args.labels.now c.split_at.result.0.now
          c.split_at.result.1.now c.split_at.ensures.by_index.0 c.requires.labels,
      c.requires.width,
    ),
  ),
)

pub matched-requires-in-len2-up : goal.matched-requires-in-len2-up
matched-requires-in-len2-up t c = (
  omega (arith, c.split_at.ensures.back_len, half_more _ c.in-len2-up.len_at_least, c.decreases),
  (
    c.requires.subject,
    (
      all_back (λ e. IsNarrow (names_of c.args.scope.now) c.args.w e) plain_expr c.args.labels.now c.split_at.result.0.now
          c.split_at.result.1.now c.split_at.ensures.by_index.0 c.requires.labels,
      c.requires.width,
    ),
  ),
)
