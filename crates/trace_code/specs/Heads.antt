-- The head of a packet.
use Rattle.std.specs.Prelude.{◌≡◌, ℕ, Bool, true, false, List, take, drop, slice_index, if◌then◌else◌}
use Rattle.vec_clock.specs.trace_model.declared.event.Kind.{Kind}
use Rattle.vec_clock.specs.trace_model.declared.event.Kind.TheVariants.{Start, End, Reset}
use Rattle.vec_clock.specs.trace_model.declared.packet.TheConstants.{RESET_LEN}
use Rattle.vec_clock.specs.trace_model.Length.{head_len, mask_len}
use Rattle.vec_clock.specs.vidi_bits.Number.{has}
use Rattle.trace_code.specs.PacketReading.{low_value}

-- the masks that begin these bytes, of n channels
pub record AreMasks (n starts ends : ℕ) (bytes : List ℕ) : Type 0 where
  pub starts_are : starts ≡ low_value (take (mask_len n) bytes)
  pub ends_are : ends ≡ low_value (take (mask_len n) (drop (mask_len n) bytes))

-- the masks of a packet of n channels; a reset's are 0
abbrev pub AreOf : ℕ → Bool → ℕ → ℕ → List ℕ → Type 0
AreOf n true starts ends bytes = (starts ≡ 0) × (ends ≡ 0)
AreOf n false starts ends bytes = AreMasks n starts ends bytes

-- a packet of n channels with this head stands at the front of the bytes
pub record IsHead (n : ℕ) (reset : Bool) (starts ends : ℕ) (rest : List ℕ) : Type 0 where
  pub tag : slice_index rest 0 ≡ (if reset then 2 else 1)
  pub masks : AreOf n reset starts ends (drop 3 rest)

-- the bytes of a head
abbrev pub front_len : ℕ → Bool → ℕ
front_len n reset = if reset then RESET_LEN else head_len n

-- whether a packet with this head has an event of a kind on channel c
abbrev pub heads : Kind → ℕ → Bool → ℕ → ℕ → Bool
heads Start c reset starts ends = has starts c
heads End c reset starts ends = has ends c
heads Reset c reset starts ends = reset
