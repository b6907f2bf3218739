use Rattle.std.proofs.Common.{◌≡◌, ℕ, ◌&&◌, not, drop}
use Rattle.net_design.specs.Bits.{named}
use Rattle.net_code.specs.BitMap.{in_map}
use Rattle.net_code.proofs.code_bits.forget.Given as goal

abbrev pub invariant-loop-mask : goal.invariant-loop-mask
invariant-loop-mask l =
    (m k : ℕ) → (in_map l.known m k && not (named (drop l.mask-index l.masks) m k)) ≡
    (in_map l.initial.known m k && not (named l.masks m k))
