use Rattle.std.proofs.Common.{◌≡◌, ◌++◌, drop}
use Rattle.axi_burst.specs.Transfers.{end_places, end_places_from}
use Rattle.axi_burst.proofs.transfers.end_places.Given as goal

abbrev pub invariant-loop-at : goal.invariant-loop-at
invariant-loop-at l = l.places ++ end_places_from l.channel l.at (drop l.at l.packets) ≡ end_places l.channel l.packets
