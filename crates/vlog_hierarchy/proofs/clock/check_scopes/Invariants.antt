use Rattle.std.proofs.Common.{◌≡◌, map, drop}
use Rattle.std.specs.List.{flat_map}
use Rattle.vlog_tree.specs.Plain.{plain_module}
use Rattle.vlog_hierarchy.specs.Clock.{scope_faults}
use Rattle.vlog_hierarchy.proofs.clock.check_scopes.Given as goal

abbrev pub invariant-loop-scope : goal.invariant-loop-scope
invariant-loop-scope l =
    flat_map (scope_faults (map plain_module l.modules) l.wanted l.marks) (drop l.scope-index l.scopes)
    ≡ flat_map (scope_faults (map plain_module l.modules) l.wanted l.marks) l.scopes
