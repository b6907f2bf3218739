use Rattle.std.proofs.Common.{◌≡◌, ◌++◌, drop, map}
use Rattle.vlog_tree.specs.Plain.{plain_item}
use Rattle.shim_trees.specs.Pieces.{each_some}
use Rattle.shim_trees.specs.ReplayTop.{replay_wires}
use Rattle.shim_gen.proofs.replay_top.add_all_channel_wires.Given as goal

abbrev pub invariant-loop-n : goal.invariant-loop-n
invariant-loop-n l =
    map plain_item l.items ++ each_some replay_wires l.n (drop l.n l.channels)
    ≡ map plain_item l.initial.items ++ each_some replay_wires 0 l.channels
