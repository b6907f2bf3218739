use Rattle.std.proofs.Common.{◌≡◌, drop}
use Rattle.std.specs.List.{list_any}
use Rattle.net_design.specs.declared.design.Driver.{Driver}
use Rattle.net_design.specs.Bits.{named}
use Rattle.chan_map.specs.Ports.{is_read}
use Rattle.chan_map.proofs.fits.is_read.Given as goal

abbrev pub invariant-loop-x : goal.invariant-loop-x
invariant-loop-x l = list_any (λ (x : Driver). named x.code.reads l.port 0) (drop l.x-index l.design.drivers) ≡ is_read l.design l.port
