use Rattle.std.proofs.Common.{◌≡◌, take, map}
use Rattle.chan_map.specs.Bound.{width_named}
use Rattle.chan_map.proofs.parts.widths_named.Given as goal

abbrev pub invariant-loop-name : goal.invariant-loop-name
invariant-loop-name l = l.widths ≡ map (width_named l.top.design.now.ports) (take l.name-index l.names)
