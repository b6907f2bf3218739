-- Masks of bits that are written and nets that are named as targets, one after the other, and the first net at which E9 holds.
use Rattle.std.specs.Prelude.{◌≡◌, ℕ, ◌<◌, ◌≤◌, nat_lt, Bool, true, false, ◌&&◌, not, List, [], ◌∷◌, if◌then◌else◌}
use Rattle.net_drive.specs.vidi_bits.Number.{has}
use Rattle.net_design.specs.declared.act.Mask.{Mask}
use Rattle.net_design.specs.Bits.{BitSet}
use Rattle.vlog_driver.specs.Latch.{some_bit}

-- whether some of the bits of a net aren't surely assigned
unfoldable pub is_missed : BitSet → ℕ → ℕ → Bool
is_missed adds net bits = some_bit (λ k. has bits k && not (adds net k))

-- whether some bit of a net is read
unfoldable pub is_read : BitSet → ℕ → Bool
is_read reads net = some_bit (λ k. reads net k)

-- the lesser of two nets, where the test holds of the first one
abbrev pub lesser : Bool → ℕ → ℕ → ℕ
lesser test net least = if nat_lt net least && test then net else least

-- the least of a net and those of masks some of whose bits aren't surely assigned
abbrev pub least_missed : BitSet → List Mask → ℕ → ℕ
least_missed adds [] least = least
least_missed adds (x ∷ xs) least = least_missed adds xs (lesser (is_missed adds x.net x.bits) x.net least)

-- the least of a net and those named ones of which a bit is read
abbrev pub least_read : BitSet → List ℕ → ℕ → ℕ
least_read reads [] least = least
least_read reads (x ∷ xs) least = least_read reads xs (lesser (is_read reads x) x least)

-- n is the first of the first `count` nets at which p holds, and `count` where there is none
pub record IsLeast (p : ℕ → Bool) (count n : ℕ) : Type 0 where
  pub within : n ≤ count
  pub before : (m : ℕ) → m < n → p m ≡ false
  pub here : n < count → p n ≡ true
