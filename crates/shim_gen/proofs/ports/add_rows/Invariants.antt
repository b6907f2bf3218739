use Rattle.std.proofs.Common.{◌≡◌, ◌++◌, drop, map}
use Rattle.vlog_tree.specs.Plain.{plain_port}
use Rattle.shim_gen.specs.Rows.{ports_of}
use Rattle.shim_gen.proofs.ports.add_rows.Given as goal

abbrev pub invariant-loop-row : goal.invariant-loop-row
invariant-loop-row l =
    map plain_port l.ports ++ ports_of (drop l.row-index l.rows) ≡ map plain_port l.initial.ports ++ ports_of l.rows
