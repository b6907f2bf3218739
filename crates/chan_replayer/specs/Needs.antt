-- The clocks of all channels' next events, of which several may stand at one place.
use Rattle.std.specs.Prelude.{◌≡◌, ℕ, ◌*◌, ◌<◌, ◌≤◌, ◌↔◌, true, List, length, slice_index, take, drop}
use Rattle.std.specs.List.{flat_map}
use Rattle.vec_clock.specs.vidi_bits.Number.{has}

-- clock c of clocks of n numbers that stand one behind the other
abbrev pub clock_at : ℕ → List ℕ → ℕ → List ℕ
clock_at n clocks c = take n (drop (n * c) clocks)

-- the clocks of all channels, one behind the other, where each channel's stands at its place
abbrev pub all_clocks : List ℕ → List ℕ → List ℕ
all_clocks places clocks = flat_map (clock_at (length places) clocks) places

-- each channel has a place, and each place names the channels that have it
pub record AreUsers (places users : List ℕ) : Type 0 where
  pub few : length places ≤ 128
  pub within : (c : ℕ) → c < length places → slice_index places c < length places
  pub many : length users ≡ length places
  pub each : (p c : ℕ) → p < length places → (has (slice_index users p) c ≡ true) ↔ ((c < length places) × (slice_index places c ≡ p))

-- at each place stands a clock, one number a channel
pub record AreShared (places users clocks : List ℕ) : Type 0 where
  pub used : AreUsers places users
  pub long : length clocks ≡ length places * length places
