use Rattle.std.proofs.Common.{◌≡◌, ◌++◌, drop, map}
use Rattle.vlog_tree.specs.Plain.{plain_port}
use Rattle.vlog_names.specs.Entries.{port_entries, no_port}
use Rattle.vlog_names.specs.Twice.{twice_among}
use Rattle.vlog_names.proofs.declaring.declare_ports.Given as goal

abbrev pub invariant-loop-port : goal.invariant-loop-port
invariant-loop-port l =
    let rest = port_entries l.before (map plain_port (drop l.port-index l.ports)) in
    let all = port_entries no_port (map plain_port l.ports) in
    record {
      told : twice_among l.names rest ≡ twice_among l.initial.names all;
      kept : l.names ++ rest ≡ l.initial.names ++ all;
    }
