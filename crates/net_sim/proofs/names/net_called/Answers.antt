use Rattle.std.proofs.Common.{refl, sym, ◌∙◌}
use Rattle.net_sim.specs.Table.{hash_from}
use Rattle.net_sim.proofs.TableLaws.{none_called}
use Rattle.net_sim.proofs.names.net_called.Goals as goal

pub called_at-requires-clause-there : goal.called_at-requires-clause-there
called_at-requires-clause-there c =
    c.requires.table.within (hash_from 0 c.args.name.now) c.in-Some.m (sym c.place_of.ensures ∙ c.in-Some.is)

pub returns-in-None : goal.returns-in-None
returns-in-None c =
    none_called c.args.instances.now c.args.nets.now c.args.table.now.entries c.args.name.now (hash_from 0 c.args.name.now) c.requires.table
    refl (sym c.place_of.ensures ∙ c.in-None.is)
