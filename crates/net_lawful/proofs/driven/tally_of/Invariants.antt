use Rattle.std.proofs.Common.{take}
use Rattle.net_code.specs.Tally.{IsTally}
use Rattle.net_lawful.specs.Driven.{writers}
use Rattle.net_lawful.proofs.driven.tally_of.Given as goal

abbrev pub invariant-loop-driver : goal.invariant-loop-driver
invariant-loop-driver l = IsTally l.tally (writers (take l.driver-index l.drivers))
