use Rattle.std.proofs.Common.{All}
use Rattle.net_design.specs.declared.act.Timing.TheVariants.{Blocking}
use Rattle.net_design.specs.declared.design.Driver.{Driver}
use Rattle.net_design.specs.Bits.{HasBits}
use Rattle.net_checks.proofs.lawful.add_constants.Given as goal

abbrev pub invariant-loop-i : goal.invariant-loop-i
invariant-loop-i l = All (λ (x : Driver). HasBits Blocking x.code) l.drivers
