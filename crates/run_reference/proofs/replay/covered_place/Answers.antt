use Rattle.std.proofs.Common.{sym}
use Rattle.run_reference.proofs.FeedLemmas.{place-within}
use Rattle.run_reference.proofs.replay.covered_place.Goals as goal

pub awaits-requires-clause-within : goal.awaits-requires-clause-within
awaits-requires-clause-within c = place-within c.args.packets.now c.event.result c.in-Some.place (sym c.in-Some.ensures)
