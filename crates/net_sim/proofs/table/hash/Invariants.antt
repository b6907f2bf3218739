use Rattle.std.proofs.Common.{◌≡◌, drop}
use Rattle.net_sim.specs.Table.{hash_from}
use Rattle.net_sim.proofs.table.hash.Given as goal

abbrev pub invariant-loop-byte : goal.invariant-loop-byte
invariant-loop-byte l = hash_from l.hash (drop l.byte-index l.text) ≡ hash_from l.before l.text
