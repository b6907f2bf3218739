use Rattle.std.proofs.Common.{◌≡◌, map, drop}
use Rattle.std.specs.List.{AllByRecursion}
use Rattle.vlog_tree.specs.Plain.{plain_expr}
use Rattle.vlog_block.specs.Sources.{names_of}
use Rattle.vlog_block.specs.Updates.{widest}
use Rattle.vlog_block.specs.Faultless.{IsFaultless}
use Rattle.vlog_block.proofs.block.widest.Given as goal

abbrev pub invariant-loop-e : goal.invariant-loop-e
invariant-loop-e l =
    let r = names_of l.scope in
    let rest = map plain_expr (drop l.e-index l.exprs) in
    record {
      same : widest r rest l.most ≡ widest r (map plain_expr l.exprs) l.initial.most;
      faultless : AllByRecursion (λ e. IsFaultless r e) rest;
    }
