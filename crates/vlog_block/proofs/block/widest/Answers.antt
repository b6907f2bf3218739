use Rattle.vlog_tree.specs.Plain.{plain_expr}
use Rattle.vlog_block.specs.Sources.{names_of}
use Rattle.vlog_block.proofs.Fitting.{faultless_width}
use Rattle.vlog_block.proofs.Statements.{first_faultless}
use Rattle.vlog_block.proofs.block.widest.Goals as goal

pub own_width-requires : goal.own_width-requires
own_width-requires c =
    faultless_width c.args.scope.now (plain_expr c.e-item.result)
    (first_faultless (names_of c.args.scope.now) c.args.exprs.now c.loop-e.e-index c.e-item.result c.loop-e-test.true c.e-item.is
    c.loop-e.invariant.faultless)
