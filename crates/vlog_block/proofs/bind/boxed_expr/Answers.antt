use Rattle.vlog_tree.specs.Plain.{plain_expr}
use Rattle.vlog_block.proofs.Fitting.{wide_enough}
use Rattle.vlog_block.proofs.bind.boxed_expr.Goals as goal

pub bound_expr-requires-clause-width : goal.bound_expr-requires-clause-width
bound_expr-requires-clause-width c =
    wide_enough c.args.scope.now (plain_expr c.args.e.now) c.args.w c.requires.faultless c.requires.least c.requires.most
