use Rattle.shim_cosim.proofs.SameRecords as laws
use Rattle.shim_cosim.proofs.records.records_alike.Goals as goal

pub returns : goal.returns
returns g c =
    laws.records_alike (g.S.Shell.runs c.args.one.now) (g.T.Shell.runs c.args.other.now) (g.E.Env.stands_for c.args.env.now)
    (g.F.Env.stands_for c.args.its.now)
