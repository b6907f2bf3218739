use Rattle.std.proofs.Common.{◌≡◌, ◌++◌, drop, map}
use Rattle.vlog_tree.specs.Plain.{plain_conn}
use Rattle.shim_gen.specs.Rows.{conns_of}
use Rattle.shim_gen.proofs.conns.add_rows.Given as goal

abbrev pub invariant-loop-row : goal.invariant-loop-row
invariant-loop-row l =
    map plain_conn l.conns ++ conns_of (drop l.row-index l.rows) ≡ map plain_conn l.initial.conns ++ conns_of l.rows
