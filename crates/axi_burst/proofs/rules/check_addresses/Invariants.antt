use Rattle.std.proofs.Common.{◌≡◌, drop}
use Rattle.axi_burst.specs.Bursts.{address_faults, broken_from, is_lawful_at}
use Rattle.axi_burst.proofs.rules.check_addresses.Given as goal

abbrev pub invariant-loop-i : goal.invariant-loop-i
invariant-loop-i l = broken_from 1 l.channel (is_lawful_at l.beat) l.i (drop l.i l.asks) ≡ address_faults l.channel l.beat l.asks
