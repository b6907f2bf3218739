use Rattle.std.proofs.Common.{sym}
use Rattle.vlog_size.proofs.Tables.{value_there, value_past}
use Rattle.vlog_size.proofs.table.Table.value_at.Goals as goal

pub returns-in_err-_name : goal.returns-in_err-_name
returns-in_err-_name g c =
    rw (← c.self.view_is, c.from_residual.ensures)
    (sym (value_past c.self.inside.entries.entries c.args.place (sym c.in_err-_name.ensures.entry)))

pub returns : goal.returns
returns g c =
    rw (← c.self.view_is)
    (sym (value_there c.self.inside.entries.entries c.args.place c.in_ok-_name._name.now c.in_ok-_name.value.now
    (sym c.in_ok-_name.ensures.entry)))
