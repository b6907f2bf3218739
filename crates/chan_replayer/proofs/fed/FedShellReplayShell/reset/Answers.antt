use Rattle.std.proofs.Common.{arith, length}
use Rattle.chan_replayer.proofs.Feeding.{none-yet, running-first}
use Rattle.chan_replayer.proofs.fed.FedShellReplayShell.reset.Goals as goal

pub invariant_of-self-clause-running : goal.invariant_of-self-clause-running
invariant_of-self-clause-running g c =
    let f = c.args.self.now in
    running-first (g.S.Shell.map f.shell) (g.S.Shell.runs f.shell) (g.S.Shell.runs c.reset.new.self) (length f.have) f.have c.reset-2.new.self
    c.reset-2.ensures c.reset.ensures.first f.running

pub invariant_of-self-clause-small : goal.invariant_of-self-clause-small
invariant_of-self-clause-small g c k l =
    let none = none-yet (length c.args.self.now.have) c.reset-2.new.self c.reset-2.ensures k in
    omega (arith, none)
