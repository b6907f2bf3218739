-- Sets of bits of nets that are kept as a mask for each net.
use Rattle.std.specs.Prelude.{ℕ, ◌==◌, Bool, List}
use Rattle.std.specs.List.{list_any}
use Rattle.std.specs.Option.{unwrap_or}
use Rattle.std.specs.Ordering.{nat_cmp}
use Rattle.std.specs.BTreeMap as tree
use Rattle.net_code.specs.declared.bit_map.BitMap.{BitMap}
use Rattle.net_design.specs.vidi_bits.Number.{has}
use Rattle.net_design.specs.Bits.{BitSet}

-- the mask of net m
abbrev pub mask_of : BitMap → ℕ → ℕ
mask_of b m = unwrap_or (tree.get nat_cmp b.masks m) 0

-- the bits of the set
unfoldable pub in_map : BitMap → BitSet
in_map b m k = has (mask_of b m) k

abbrev pub is_among : ℕ → List ℕ → Bool
is_among m named = list_any (λ i. i == m) named
