use Rattle.std.proofs.Common.{arith}
use Rattle.chan_replayer.proofs.Feeding.{fed-first, none-yet, running-new}
use Rattle.chan_replayer.proofs.fed.FedShell.around.Goals as goal

pub returns-clause-runs : goal.returns-clause-runs
returns-clause-runs g c d s on =
    fed-first (g.S.Shell.runs c.args.shell) c.len.result c.in_ok-have.have d s c.in_ok-have.ensures on

pub invariant_of-result-clause-running : goal.invariant_of-result-clause-running
invariant_of-result-clause-running g c =
    running-new (g.S.Shell.runs c.args.shell) c.len.result c.in_ok-have.have c.in_ok-have.ensures c.requires.fresh

pub invariant_of-result-clause-small : goal.invariant_of-result-clause-small
invariant_of-result-clause-small g c k l =
    let none = none-yet c.len.result c.in_ok-have.have c.in_ok-have.ensures k in
    omega (arith, none)
