use Rattle.std.proofs.Common.{take}
use Rattle.net_code.specs.Tally.{IsLowTally}
use Rattle.net_drive.proofs.Tallies.{lent_count}
use Rattle.net_drive.proofs.tally.tally_places.Given as goal

abbrev pub invariant-loop-place : goal.invariant-loop-place
invariant-loop-place l = IsLowTally l.tally (lent_count (take l.place-index l.places))
