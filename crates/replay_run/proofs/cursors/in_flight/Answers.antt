use Rattle.std.proofs.Common.{refl}
use Rattle.replay_run.proofs.Forward.{flight-is}
use Rattle.replay_run.proofs.cursors.in_flight.Goals as goal

pub returns : goal.returns
returns c k = flight-is c.args.row.now k _ _ refl (c.without.ensures.each k)
