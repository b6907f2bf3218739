use Rattle.std.proofs.Common.{sym}
use Rattle.vlog_size.proofs.Tables.{at_front, at_back, nowhere}
use Rattle.vlog_size.proofs.table.Table.get_among.Goals as goal

pub returns-in_err-place : goal.returns-in_err-place
returns-in_err-place g c =
    rw (← c.self.view_is, c.from_residual.ensures)
    (nowhere c.args.name.now c.self.inside.entries.entries c.args.count (sym c.in_err-place.ensures.value))

pub returns-then-place-count : goal.returns-then-place-count
returns-then-place-count g c =
    rw (← c.self.view_is)
    (at_front c.args.name.now c.self.inside.entries.entries c.args.count c.in_ok-place.place c.in_ok-place._name.now
    c.in_ok-place.value.now c.in_ok-place.ensures.index c.in_ok-place.ensures.entry c.if-place-count.true)

pub returns-else-place-count : goal.returns-else-place-count
returns-else-place-count g c =
    rw (← c.self.view_is)
    (at_back c.args.name.now c.self.inside.entries.entries c.args.count c.in_ok-place.place c.in_ok-place._name.now
    c.in_ok-place.value.now c.in_ok-place.ensures.index c.in_ok-place.ensures.entry c.if-place-count.false)
