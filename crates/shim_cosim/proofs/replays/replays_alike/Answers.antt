use Rattle.shim_cosim.proofs.SameReplays as laws
use Rattle.shim_cosim.proofs.replays.replays_alike.Goals as goal

pub returns : goal.returns
returns g c = laws.replays_alike (g.S.ReplayShell.runs c.args.one.now) (g.T.ReplayShell.runs c.args.other.now)
