use Rattle.std.proofs.Common.{◌≡◌, ℕ, ◌||◌}
use Rattle.net_design.specs.Bits.{named}
use Rattle.net_code.proofs.MaskLaws.{named_entries}
use Rattle.net_code.proofs.bit_map.BitMap.to_masks.Given as goal

abbrev pub invariant-loop-net : goal.invariant-loop-net
invariant-loop-net l = (m k : ℕ) → (named l.out m k || named_entries l.net-iterator m k) ≡ named_entries l.self.masks.entries m k
