use Rattle.std.proofs.Common.{◌==◌}
use Rattle.net_lawful.proofs.PlaceLaws.{no_bits_named}
use Rattle.net_lawful.proofs.places.no_mask.Goals as goal

pub returns : goal.returns
returns c = λ m k. no_bits_named (0 == m) k
