use Rattle.std.proofs.Common.{Some, ap, ◌∙◌}
use Rattle.flat_layout.proofs.Entries.{memory_there}
use Rattle.flat_layout.proofs.memory.memory_at.Goals as goal

pub returns : goal.returns
returns c = memory_there c.args.number c.args.word c.args.list.now c.args.place c.in_ok-name.name c.in-Some-value_at.memory.now
    (ap Some c.in_ok-name.ensures ∙ c.in-Some.ensures) c.in-Some-value_at.ensures
