use Rattle.std.proofs.Common.{length}
use Rattle.axi_burst.proofs.ports.+differ.Given as goal

abbrev pub decreases-differ : goal.decreases-differ
decreases-differ l = length l.places.now
