use Rattle.std.proofs.Common.{◌∙◌}
use Rattle.vlog_size.proofs.Tables.{placed}
use Rattle.vlog_size.proofs.table.Table.place.Goals as goal

pub returns : goal.returns
returns g c = rw (← c.self.view_is) (c.get_index_of.ensures.index ∙ placed c.self.inside.entries.entries c.args.name.now)
