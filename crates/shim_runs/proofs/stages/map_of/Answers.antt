use Rattle.shim_runs.proofs.stages.map_of.Goals as goal

pub returns-in-Ok-clause-mapped : goal.returns-in-Ok-clause-mapped
returns-in-Ok-clause-mapped c =
    c.bound_is_map_of.ensures c.args.text.now c.args.design.now c.in-Ok.map c.in-Ok.ensures
