use Rattle.std.proofs.Common.{◌∙◌}
use Rattle.vlog_size.proofs.Tables.{found}
use Rattle.vlog_size.proofs.table.Table.get.Goals as goal

pub returns : goal.returns
returns g c = rw (← c.self.view_is) (c.get.ensures.value ∙ found c.args.name.now c.self.inside.entries.entries)
