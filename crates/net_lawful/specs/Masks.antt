-- Masks and sets of bits, compared.
use Rattle.std.specs.Prelude.{◌≡◌, ℕ, Bool, true}
use Rattle.net_design.specs.declared.act.Mask.{Mask}
use Rattle.net_code.specs.vidi_bits.Number.{has}
use Rattle.net_code.specs.declared.bit_map.BitMap.{BitMap}
use Rattle.net_code.specs.BitMap.{in_map}

-- each bit that a mask names is in a set, or none is
abbrev pub MaskIs : BitMap → Bool → Mask → Type 0
MaskIs set b x = (k : ℕ) → has x.bits k ≡ true → in_map set x.net k ≡ b
