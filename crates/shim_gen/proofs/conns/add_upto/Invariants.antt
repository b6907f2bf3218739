use Rattle.std.proofs.Common.{◌≡◌, ◌-◌, ◌++◌, map}
use Rattle.vlog_tree.specs.Plain.{plain_conn}
use Rattle.shim_trees.specs.Pieces.{upto}
use Rattle.shim_gen.specs.Rows.{conn_at}
use Rattle.shim_gen.proofs.conns.add_upto.Given as goal

abbrev pub invariant-loop-i : goal.invariant-loop-i
invariant-loop-i l =
    map plain_conn l.conns ++ upto (λ j. conn_at l.port l.label j) l.i (l.count - l.i)
    ≡ map plain_conn l.initial.conns ++ upto (λ j. conn_at l.port l.label j) 0 l.count
