use Rattle.std.proofs.Common.{◌≡◌, ◌++◌, drop, map}
use Rattle.vlog_tree.specs.Plain.{plain_port}
use Rattle.shim_trees.specs.Pieces.{each, port}
use Rattle.shim_gen.specs.Labels.{text_at}
use Rattle.shim_gen.proofs.ports.add_each.Given as goal

abbrev pub invariant-loop-i : goal.invariant-loop-i
invariant-loop-i l =
    map plain_port l.ports ++ each (λ i w. port l.direction (text_at l.label i) w) l.i (drop l.i l.widths)
    ≡ map plain_port l.initial.ports ++ each (λ i w. port l.direction (text_at l.label i) w) 0 l.widths
