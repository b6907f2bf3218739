use Rattle.std.proofs.Common.{◌≡◌, ◌-◌, ◌++◌, map}
use Rattle.vlog_tree.specs.Plain.{plain_port}
use Rattle.shim_trees.specs.Pieces.{upto, port}
use Rattle.shim_gen.specs.Labels.{text_at}
use Rattle.shim_gen.proofs.ports.add_upto.Given as goal

abbrev pub invariant-loop-j : goal.invariant-loop-j
invariant-loop-j l =
    map plain_port l.ports ++ upto (λ j. port l.direction (text_at l.label j) l.width) l.j (l.count - l.j)
    ≡ map plain_port l.initial.ports ++ upto (λ j. port l.direction (text_at l.label j) l.width) 0 l.count
