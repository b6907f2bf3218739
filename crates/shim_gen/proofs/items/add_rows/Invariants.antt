use Rattle.std.proofs.Common.{◌≡◌, ◌++◌, drop, map}
use Rattle.vlog_tree.specs.Plain.{plain_item}
use Rattle.shim_gen.specs.Rows.{items_of}
use Rattle.shim_gen.proofs.items.add_rows.Given as goal

abbrev pub invariant-loop-row : goal.invariant-loop-row
invariant-loop-row l =
    map plain_item l.items ++ items_of (drop l.row-index l.rows) ≡ map plain_item l.initial.items ++ items_of l.rows
