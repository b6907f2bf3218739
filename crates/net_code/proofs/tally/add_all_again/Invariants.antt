use Rattle.std.proofs.Common.{◌≡◌, ℕ, ◌||◌, ◌&&◌, drop}
use Rattle.net_design.specs.Bits.{named}
use Rattle.net_code.specs.BitMap.{in_map}
use Rattle.net_code.proofs.tally.add_all_again.Given as goal

abbrev pub invariant-loop-mask : goal.invariant-loop-mask
invariant-loop-mask l = (m k : ℕ) → (in_map l.more m k || (in_map l.once m k && named (drop l.mask-index l.masks) m k))
    ≡ (in_map l.initial.more m k || (in_map l.once m k && named l.masks m k))
