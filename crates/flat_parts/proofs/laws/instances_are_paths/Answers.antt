use Rattle.flat_parts.proofs.Listed.{instances_are_all, paths_differ, first_is_top}
use Rattle.flat_parts.proofs.laws.instances_are_paths.Goals as goal

pub returns-clause-all : goal.returns-clause-all
returns-clause-all c = instances_are_all

pub returns-clause-differ : goal.returns-clause-differ
returns-clause-differ c = paths_differ

pub returns-clause-first : goal.returns-clause-first
returns-clause-first c = first_is_top
