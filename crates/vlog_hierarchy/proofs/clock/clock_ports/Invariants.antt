use Rattle.std.proofs.Common.{◌≡◌, ◌++◌, map, drop}
use Rattle.std.specs.List.{flat_map}
use Rattle.vlog_tree.specs.Plain.{plain_module}
use Rattle.vlog_hierarchy.specs.Clock.{scope_ports}
use Rattle.vlog_hierarchy.proofs.clock.clock_ports.Given as goal

abbrev pub invariant-loop-scope : goal.invariant-loop-scope
invariant-loop-scope l =
    l.ports ++ flat_map (scope_ports (map plain_module l.modules)) (drop l.scope-index l.scopes)
    ≡ flat_map (scope_ports (map plain_module l.modules)) l.scopes
