use Rattle.std.proofs.Common.{arith}
use Rattle.vlog_expr.proofs.LawfulFront.{lawful_more}
use Rattle.vlog_expr.proofs.lawful.lawful_len.Goals as goal

pub loop-token-preserved : goal.loop-token-preserved
loop-token-preserved c = (
  omega (arith, c.loop-token.invariant.0),
  lawful_more c.args.tokens.now c.loop-token.token-index c.token-item.result (omega arith) c.token-item.is c.loop-token.invariant.1
      (c.is_lawful.ensures.0 c.if-not-is_lawful.false),
)
