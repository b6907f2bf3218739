use Rattle.sample_designs.proofs.stages.bound.Goals as goal

pub returns-in-Ok : goal.returns-in-Ok
returns-in-Ok c = c.bound_is_map_of.ensures c.args.text.now c.args.design.now c.in-Ok.map c.in-Ok.ensures
