use Rattle.net_sim.proofs.net_order_lemmas.GraphTest.{all_below_in}
use Rattle.net_checks.proofs.chains.is_graph.Goals as goal

pub returns : goal.returns
returns c t = all_below_in _ _ (c.rows_below.ensures.0 t)
