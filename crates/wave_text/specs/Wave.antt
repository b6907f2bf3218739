-- What a wave is (this project's profile).
use Rattle.std.specs.Prelude.{◌≡◌, ◌≢◌, ℕ, ◌*◌, ◌^◌, ◌<◌, ◌≤◌, List, [], length, All, Some, slice_get, slice_index}
use Rattle.std.specs.List.{AllPairs}
use Rattle.vlog_lex.specs.vidi_bits.Number.{IsWidth}
use Rattle.vlog_lex.specs.Lexeme.{IsToken}
use Rattle.vlog_lex.specs.declared.token.TokenKind.TheVariants.{Identifier}
use Rattle.wave_text.specs.declared.wave.WaveNet.{WaveNet}
use Rattle.wave_text.specs.declared.wave.Wave.{Wave}
use Rattle.wave_text.specs.Names.{parts}

-- how many numbers a wave has at most: its rows times its nets
abbrev pub most_numbers : ℕ
most_numbers = 4194304

abbrev pub IsIdentifier : List ℕ → Type 0
IsIdentifier name = IsToken Identifier name

-- a fitting number for each net
pub record FitsRow (nets : List WaveNet) (row : List ℕ) : Type 0 where
  pub long : length row ≡ length nets
  pub each : (k : ℕ) (x : WaveNet) → slice_get nets k ≡ Some x → slice_index row k < 2 ^ x.width

-- 1 to 128 bits, and a name of one or more identifiers joined by dots
pub record IsNet (x : WaveNet) : Type 0 where
  pub names : All IsIdentifier (parts x.name)
  pub width : IsWidth x.width

pub record IsWave (w : Wave) : Type 0 where
  pub top : IsIdentifier w.top
  pub some : w.nets ≢ []
  pub nets : All IsNet w.nets
  pub differ : AllPairs (λ (x y : WaveNet). x.name ≢ y.name) w.nets
  pub fit : All (FitsRow w.nets) w.rows
  pub few : length w.rows * length w.nets ≤ most_numbers
