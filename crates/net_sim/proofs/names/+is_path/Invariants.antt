use Rattle.net_sim.proofs.names.+is_path.Given as goal

abbrev pub decreases-is_path : goal.decreases-is_path
decreases-is_path l = l.i
