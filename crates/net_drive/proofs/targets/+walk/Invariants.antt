use Rattle.std.proofs.Common.{◌≡◌, ◌++◌, drop}
use Rattle.std.specs.List.{flat_map}
use Rattle.net_design.specs.declared.act.Guard.{Guard}
use Rattle.net_code.specs.Targets.{targets, block_targets, plain_places}
use Rattle.net_drive.proofs.targets.+walk.Given as goal

abbrev pub invariant-add_acts-loop-act : goal.invariant-add_acts-loop-act
invariant-add_acts-loop-act l =
    plain_places l.out ++ flat_map targets (drop l.act-index l.act-items) ≡ plain_places l.initial.out ++ flat_map targets l.acts

abbrev pub invariant-add_guards-loop-guard : goal.invariant-add_guards-loop-guard
invariant-add_guards-loop-guard l =
    plain_places l.out ++ flat_map (λ (g : Guard). block_targets g.body) (drop l.guard-index l.guard-items)
    ≡ plain_places l.initial.out ++ flat_map (λ (g : Guard). block_targets g.body) l.guards
