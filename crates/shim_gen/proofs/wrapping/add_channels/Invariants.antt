use Rattle.std.proofs.Common.{◌≡◌, ◌++◌, drop, map, length}
use Rattle.vlog_tree.specs.Plain.{plain_module}
use Rattle.shim_trees.specs.Pieces.{each_some}
use Rattle.shim_trees.specs.Wrapped.{channel_shims}
use Rattle.shim_gen.proofs.wrapping.add_channels.Given as goal

abbrev pub invariant-loop-n : goal.invariant-loop-n
invariant-loop-n l =
    map plain_module l.modules ++ each_some (channel_shims (length l.channels)) l.n (drop l.n l.channels) ≡ map plain_module l.initial.modules ++ each_some (channel_shims (length l.channels)) 0 l.channels
