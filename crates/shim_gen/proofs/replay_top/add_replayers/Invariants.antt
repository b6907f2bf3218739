use Rattle.std.proofs.Common.{◌≡◌, ◌++◌, drop, map, length}
use Rattle.vlog_tree.specs.Plain.{plain_item}
use Rattle.shim_trees.specs.Pieces.{each}
use Rattle.shim_trees.specs.ReplayTop.{replayer_item}
use Rattle.shim_gen.proofs.replay_top.add_replayers.Given as goal

abbrev pub invariant-loop-n : goal.invariant-loop-n
invariant-loop-n l =
    map plain_item l.items ++ each (replayer_item (length l.channels)) l.n (drop l.n l.channels)
    ≡ map plain_item l.initial.items ++ each (replayer_item (length l.channels)) 0 l.channels
