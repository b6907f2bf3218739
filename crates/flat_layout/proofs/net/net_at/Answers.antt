use Rattle.std.proofs.Common.{Some, ap, ◌∙◌}
use Rattle.flat_layout.proofs.Entries.{net_there}
use Rattle.flat_layout.proofs.net.net_at.Goals as goal

pub returns : goal.returns
returns c = net_there c.args.number c.args.list.now c.args.place c.in_ok-name.name c.in-Some-value_at.net.now
    (ap Some c.in_ok-name.ensures ∙ c.in-Some.ensures) c.in-Some-value_at.ensures
