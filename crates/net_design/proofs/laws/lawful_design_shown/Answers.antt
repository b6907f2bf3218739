use Rattle.net_design.proofs.ExampleLaws.{lawful, twice, undriven, both_kinds, stray, same_name}
use Rattle.net_design.proofs.laws.lawful_design_shown.Goals as goal

pub returns-clause-lawful : goal.returns-clause-lawful
returns-clause-lawful c = lawful

pub returns-clause-driven_twice : goal.returns-clause-driven_twice
returns-clause-driven_twice c = twice

pub returns-clause-not_driven : goal.returns-clause-not_driven
returns-clause-not_driven c = undriven

pub returns-clause-held_driven : goal.returns-clause-held_driven
returns-clause-held_driven c = both_kinds

pub returns-clause-stray_initial : goal.returns-clause-stray_initial
returns-clause-stray_initial c = stray

pub returns-clause-named_twice : goal.returns-clause-named_twice
returns-clause-named_twice c = same_name
