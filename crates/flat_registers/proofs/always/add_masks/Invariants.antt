use Rattle.std.proofs.Common.{◌≡◌, ℕ, ◌||◌, drop}
use Rattle.net_design.specs.Bits.{named}
use Rattle.flat_parts.specs.net_code.BitMap.{in_map}
use Rattle.flat_registers.proofs.always.add_masks.Given as goal

abbrev pub invariant-loop-mask : goal.invariant-loop-mask
invariant-loop-mask l =
    (m k : ℕ) → (in_map l.map m k || named (drop l.mask-index l.masks) m k) ≡ (in_map l.initial.map m k || named l.masks m k)
