use Rattle.std.proofs.Common.{◌↔◌, map, drop}
use Rattle.std.specs.List.{AllByRecursion}
use Rattle.vlog_tree.specs.Plain.{plain_expr}
use Rattle.vlog_block.specs.Sources.{names_of}
use Rattle.vlog_block.specs.Faultless.{IsFaultless}
use Rattle.vlog_block.proofs.faultless.are_faultless_exprs.Given as goal

abbrev pub invariant-loop-e : goal.invariant-loop-e
invariant-loop-e l =
    AllByRecursion (λ e. IsFaultless (names_of l.scope) e) (map plain_expr (drop l.e-index l.exprs))
    ↔ AllByRecursion (λ e. IsFaultless (names_of l.scope) e) (map plain_expr l.exprs)
