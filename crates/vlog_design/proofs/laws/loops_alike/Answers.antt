use Rattle.vlog_design.proofs.Loops.{loops-alike}
use Rattle.vlog_design.proofs.laws.loops_alike.Goals as goal

pub returns : goal.returns
returns c = loops-alike c.order_or_loop.ensures
