use Rattle.std.proofs.Common.{◌≡◌, ◌++◌, drop, map}
use Rattle.vlog_tree.specs.Plain.{plain_item}
use Rattle.shim_trees.specs.Pieces.{each}
use Rattle.shim_trees.specs.RecordTop.{monitor_item}
use Rattle.shim_gen.proofs.record_top.add_monitors.Given as goal

abbrev pub invariant-loop-n : goal.invariant-loop-n
invariant-loop-n l =
    map plain_item l.items ++ each monitor_item l.n (drop l.n l.channels) ≡ map plain_item l.initial.items ++ each monitor_item 0 l.channels
