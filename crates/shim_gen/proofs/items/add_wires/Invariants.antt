use Rattle.std.proofs.Common.{◌≡◌, ◌++◌, drop, map}
use Rattle.vlog_tree.specs.Plain.{plain_item}
use Rattle.shim_trees.specs.Pieces.{each, wire}
use Rattle.shim_gen.specs.Labels.{text_at}
use Rattle.shim_gen.proofs.items.add_wires.Given as goal

abbrev pub invariant-loop-i : goal.invariant-loop-i
invariant-loop-i l =
    map plain_item l.items ++ each (λ i w. wire (text_at l.label i) w) l.i (drop l.i l.widths)
    ≡ map plain_item l.initial.items ++ each (λ i w. wire (text_at l.label i) w) 0 l.widths
