-- Channel tables: names, content ports and their sizes (this project's profile).
use Rattle.std.specs.Prelude.{◌≢◌, ℕ, ◌+◌, ◌/◌, ◌≤◌, ◌==◌, ◌||◌, ◌&&◌, Bool, IsTrue, List, [], ◌∷◌, length, nat_le, All, sum_by}
use Rattle.std.specs.List.{AllPairs}
use Rattle.trace_model.specs.declared.channel.Channel.{Channel}
use Rattle.trace_model.specs.declared.packet.TheConstants.{MOST_CHANNELS, MOST_CONTENT_BYTES}

-- the bytes that hold a number of this width in bits: the width over 8, rounded up
abbrev pub byte_count : ℕ → ℕ
byte_count width = (width + 7) / 8

-- the bytes of a channel's content
abbrev pub content_bytes : Channel → ℕ
content_bytes c = sum_by byte_count c.widths

abbrev pub between : ℕ → ℕ → ℕ → Bool
between low high b = nat_le low b && nat_le b high

-- A to Z, a to z, or _
abbrev pub is_letter : ℕ → Bool
is_letter b = between 65 90 b || (between 97 122 b || (b == 95))

-- a letter, or 0 to 9
abbrev pub is_letter_or_digit : ℕ → Bool
is_letter_or_digit b = is_letter b || between 48 57 b

-- a letter, then letters and digits, at most 64 bytes in all
abbrev pub IsName : List ℕ → Type 0
IsName [] = ⊥
IsName (b ∷ bs) = IsTrue (is_letter b) × All (λ c. IsTrue (is_letter_or_digit c)) bs × (length bs ≤ 63)

-- 0 to 16 content ports of 1 to 128 bits
pub record IsChannel (c : Channel) : Type 0 where
  pub name : IsName c.name
  pub ports : length c.widths ≤ 16
  pub widths : All (λ w. (1 ≤ w) × (w ≤ 128)) c.widths

-- a lawful table: at least one channel and no more than the most, whose names differ, with no more content bytes in all than the most
pub record IsTable (channels : List Channel) : Type 0 where
  pub some : 1 ≤ length channels
  pub few : length channels ≤ MOST_CHANNELS
  pub each : All IsChannel channels
  pub differ : AllPairs (λ (a b : Channel). a.name ≢ b.name) channels
  pub content : sum_by content_bytes channels ≤ MOST_CONTENT_BYTES
