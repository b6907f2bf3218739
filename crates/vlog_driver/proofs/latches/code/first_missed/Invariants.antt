use Rattle.std.proofs.Common.{◌≡◌, drop}
use Rattle.net_drive.specs.net_code.BitMap.{in_map}
use Rattle.vlog_driver.specs.Masks.{least_missed}
use Rattle.vlog_driver.proofs.latches.code.first_missed.Given as goal

abbrev pub invariant-loop-mask : goal.invariant-loop-mask
invariant-loop-mask l =
    least_missed (in_map l.sure) (drop l.mask-index l.masks) l.least ≡ least_missed (in_map l.sure) l.masks l.initial.least
