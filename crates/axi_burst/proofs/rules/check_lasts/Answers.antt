use Rattle.std.proofs.Common.{◌++◌, drop}
use Rattle.axi_burst.specs.Bursts.{all_lasts, last_faults}
use Rattle.axi_burst.specs.Passes.{lasts_left}
use Rattle.axi_burst.proofs.FaultLoops.{none-asked}
use Rattle.axi_burst.proofs.rules.check_lasts.Goals as goal

pub returns-in_default : goal.returns-in_default
returns-in_default c =
    none-asked c.args.channel c.loop-i.i (drop c.loop-i.i c.args.sent.now) (lasts_left c.loop-i.left ++ all_lasts c.loop-i.rest.now)
    (last_faults c.args.channel c.args.asks.now c.args.sent.now) c.loop-i.invariant c.in_default.ensures
