use Rattle.std.proofs.Common.{ap, sym, ◌∙◌, Some, arith}
use Rattle.flat_drivers.proofs.Copies.{entry_copied}
use Rattle.flat_drivers.proofs.copied.copy_entry.Goals as goal

pub returns : goal.returns
returns g c =
    entry_copied c.args.table.now c.args.copy.now c.push.new.self c.args.place c.in_ok-name.name c.in-Some-value_at.value.now c.requires.front
    (sym c.in-Some.ensures ∙ ap Some (sym c.in_ok-name.ensures)) (sym c.in-Some-value_at.ensures) c.in_ok-push.ensures.ok
    (λ e. omega (arith, e, c.if-len-before.false, c.len.ensures, c.len-before.ensures))
