use Rattle.std.proofs.Common.{◌≡◌, drop}
use Rattle.net_code.specs.BitMap.{is_among}
use Rattle.net_drive.proofs.drive.is_among.Given as goal

abbrev pub invariant-loop-other : goal.invariant-loop-other
invariant-loop-other l = is_among l.key (drop l.other-index l.keys) ≡ is_among l.key l.keys
