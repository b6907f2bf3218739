use Rattle.std.proofs.Common.{◌≡◌, ◌++◌, drop, map}
use Rattle.vlog_tree.specs.Plain.{plain_item}
use Rattle.shim_trees.specs.Pieces.{each, gated_content}
use Rattle.shim_gen.proofs.items.add_all_gated.Given as goal

abbrev pub invariant-loop-i : goal.invariant-loop-i
invariant-loop-i l =
    map plain_item l.items ++ each gated_content l.i (drop l.i l.widths) ≡ map plain_item l.initial.items ++ each gated_content 0 l.widths
