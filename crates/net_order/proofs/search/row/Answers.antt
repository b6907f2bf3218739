use Rattle.std.proofs.Common.{◌∙◌}
use Rattle.net_order.proofs.Rows.{list_read}
use Rattle.net_order.proofs.search.row.Goals as goal

pub returns : goal.returns
returns c = c.as_slice.ensures ∙ c.index-graph-i.is ∙ list_read c.args.graph.now c.args.i c.index-graph-i.result c.requires
