use Rattle.shim_cosim.proofs.wrapped.RecordShell+Sim.net.Goals as goal

pub returns : goal.returns
returns c = record { v = _; settled = c.requires.1.0.settled; number = c.net.ensures }
