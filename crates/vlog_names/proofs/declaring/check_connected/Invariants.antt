use Rattle.std.proofs.Common.{◌≡◌, drop, map}
use Rattle.vlog_tree.specs.Plain.{plain_conn}
use Rattle.vlog_names.specs.Twice.{twice_among, twice_connected, conn_entry}
use Rattle.vlog_names.proofs.declaring.check_connected.Given as goal

abbrev pub invariant-loop-conn : goal.invariant-loop-conn
invariant-loop-conn l =
    twice_among l.seen (map conn_entry (map plain_conn (drop l.conn-index l.conns))) ≡ twice_connected (map plain_conn l.conns)
