use Rattle.axi_burst.proofs.TurnTable.{first-turns}
use Rattle.axi_burst.proofs.turns.Turns.of.Goals as goal

pub returns : goal.returns
returns c = first-turns c.args.asks.now (record { heads = c.in_ok-heads.heads; used = c.new.result }) c.in_ok-heads.ensures c.new.ensures
