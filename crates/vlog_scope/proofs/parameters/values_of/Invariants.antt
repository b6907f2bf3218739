use Rattle.std.proofs.Common.{◌≡◌, drop, map, []}
use Rattle.vlog_tree.specs.Plain.{plain_conn}
use Rattle.vlog_size.specs.Names.{Readable, fixed}
use Rattle.vlog_scope.specs.Params.{overrides_after}
use Rattle.vlog_scope.specs.Given.{sizes_in}
use Rattle.vlog_scope.proofs.parameters.values_of.Given as goal

abbrev pub invariant-loop-conn : goal.invariant-loop-conn
invariant-loop-conn l = (r : Readable) → overrides_after r (sizes_in (fixed r) l.values) (map plain_conn (drop l.conn-index l.conns))
    ≡ overrides_after r [] (map plain_conn l.conns)
