use Rattle.vlog_size.proofs.Numbers.{past_at, ended}
use Rattle.std.proofs.Common.{sym}
use Rattle.vlog_size.proofs.literal.digits.Goals as goal

pub returns-in_err-n : goal.returns-in_err-n
returns-in_err-n c = rw c.from_residual.ensures
    (past_at c.args.base c.loop-b.n _ c.loop-b.b-index c.args.text.now c.requires c.loop-b-test.true c.if-b-ne95.true
    (sym c.in_err-n.ensures) c.loop-b.invariant.1)

pub returns : goal.returns
returns c = ended c.args.base c.loop-b.n _ c.loop-b.b-index c.args.text.now c.loop-b-test.false c.loop-b.invariant.0 c.loop-b.invariant.1
