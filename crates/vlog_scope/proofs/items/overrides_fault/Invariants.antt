use Rattle.std.proofs.Common.{◌≡◌, drop, map}
use Rattle.std.specs.List.{flat_map}
use Rattle.vlog_tree.specs.Plain.{plain_conn}
use Rattle.vlog_size.specs.Names.{readable_in}
use Rattle.vlog_scope.specs.Faults.{override_faults}
use Rattle.vlog_scope.proofs.items.overrides_fault.Given as goal

abbrev pub invariant-loop-conn : goal.invariant-loop-conn
invariant-loop-conn l = flat_map (override_faults l.kind (readable_in l.view)) (map plain_conn (drop l.conn-index l.conns))
    ≡ flat_map (override_faults l.kind (readable_in l.view)) (map plain_conn l.conns)
