use Rattle.std.proofs.Common.{◌≡◌, drop}
use Rattle.net_drive.specs.net_code.BitMap.{in_map}
use Rattle.vlog_driver.specs.Masks.{least_read}
use Rattle.vlog_driver.proofs.latches.code.first_read.Given as goal

abbrev pub invariant-loop-net : goal.invariant-loop-net
invariant-loop-net l =
    least_read (in_map l.reads) (drop l.net-index l.nets) l.least ≡ least_read (in_map l.reads) l.nets l.initial.least
