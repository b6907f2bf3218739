use Rattle.shim_step.proofs.Maps.{lists_are_maps}
use Rattle.shim_step.proofs.Memories.{memories_differ}
use Rattle.shim_step.proofs.laws.lists_are_maps.Goals as goal

pub returns-clause-maps : goal.returns-clause-maps
returns-clause-maps c = lists_are_maps

pub returns-clause-differ : goal.returns-clause-differ
returns-clause-differ c = memories_differ
