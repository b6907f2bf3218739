use Rattle.std.proofs.Common.{◌||◌, List, ap, ◌∙◌}
use Rattle.net_order.specs.declared.writers.Writer.{Writer}
use Rattle.net_order.specs.Index.{met, in_row}
use Rattle.net_order.proofs.Rows.{list_read}
use Rattle.net_order.proofs.graph.add_mask.Goals as goal

pub returns-in_ok-add_all_met : goal.returns-in_ok-add_all_met
returns-in_ok-add_all_met c = λ j.
    c.in_ok-add_all_met.ensures j
    ∙ ap (λ (ws : List Writer). in_row c.args.row.now j || met c.args.mask.bits ws j)
    (c.as_slice.ensures ∙ c.index-writers-mask.is ∙ list_read c.args.writers.now c.args.mask.net _ c.if-mask-writers.true)
