-- Facts with one proof at most.
use Rattle.std.proofs.Props.{props}
use Rattle.net_design.specs.Pins.{HasOneMap}
use Rattle.net_design.specs.declared.design.Design.{Design}

pub one_prop : (d : Design) → IsProp (HasOneMap d)
one_prop d = hlevel props
