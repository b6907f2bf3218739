use Rattle.std.proofs.Common.{sym, ap, ◌∙◌, Some}
use Rattle.vlog_size.proofs.Tables.{name_there, name_past}
use Rattle.vlog_size.proofs.table.Table.name_at.Goals as goal

pub returns-in_err-name : goal.returns-in_err-name
returns-in_err-name g c =
    rw (← c.self.view_is, c.from_residual.ensures)
    (sym (name_past c.self.inside.entries.entries c.args.place (sym c.in_err-name.ensures.entry)))

pub returns : goal.returns
returns g c =
    rw (← c.self.view_is)
    (ap Some c.as_slice.ensures.value
    ∙ sym (name_there c.self.inside.entries.entries c.args.place c.in_ok-name.name.now c.in_ok-name._value.now
    (sym c.in_ok-name.ensures.entry)))
