use Rattle.std.proofs.Common.{◌≡◌, ℕ, ◌||◌, drop}
use Rattle.flat_parts.specs.net_code.BitMap.{in_map}
use Rattle.flat_parts.specs.State.{always_writes_bit}
use Rattle.flat_registers.proofs.always.always_bits.Given as goal

abbrev pub invariant-loop-driver : goal.invariant-loop-driver
invariant-loop-driver l =
    (m k : ℕ) → (in_map l.map m k || always_writes_bit (drop l.driver-index l.drivers) m k) ≡ always_writes_bit l.drivers m k
