use Rattle.std.proofs.Common.{◌≡◌, ◌-◌, ◌++◌, map}
use Rattle.std.specs.Prelude.{codes}
use Rattle.vlog_tree.specs.Plain.{plain_item}
use Rattle.shim_trees.specs.Pieces.{upto, reg, numbered}
use Rattle.shim_gen.proofs.replayer.add_counters.Given as goal

abbrev pub invariant-loop-j : goal.invariant-loop-j
invariant-loop-j l =
    map plain_item l.items ++ upto (λ j. reg (numbered (codes "c") j) 32) l.j (l.count - l.j)
    ≡ map plain_item l.initial.items ++ upto (λ j. reg (numbered (codes "c") j) 32) 0 l.count
