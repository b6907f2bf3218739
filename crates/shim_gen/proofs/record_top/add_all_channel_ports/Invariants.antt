use Rattle.std.proofs.Common.{◌≡◌, ◌++◌, drop, map}
use Rattle.vlog_tree.specs.Plain.{plain_port}
use Rattle.shim_trees.specs.Pieces.{each_some}
use Rattle.shim_trees.specs.RecordTop.{record_ports}
use Rattle.shim_gen.proofs.record_top.add_all_channel_ports.Given as goal

abbrev pub invariant-loop-n : goal.invariant-loop-n
invariant-loop-n l =
    map plain_port l.ports ++ each_some record_ports l.n (drop l.n l.channels) ≡ map plain_port l.initial.ports ++ each_some record_ports 0 l.channels
