-- How the text of a wave is read: line by line, into what may be a wave. Whether it is one, and this text its text, is asked afterwards.
use Rattle.std.specs.Prelude.{◌≡◌, ℕ, zero, suc, ◌+◌, ◌-◌, ◌*◌, ◌^◌, ◌==◌, min, Bool, if◌then◌else◌}
use Rattle.std.specs.Prelude.{List, [], ◌∷◌, ◌++◌, replicate, drop, length, codes, slice_set, slice_index, Option, Some, None, Result, Ok, Err}
use Rattle.std.specs.List.{before_first, after_first, join_with_byte}
use Rattle.std.specs.Str.{bytes_eq}
use Rattle.vidi_lines.specs.Lines.{is_newline, file_lines}
use Rattle.vidi_lines.specs.Number.{number_of}
use Rattle.wave_text.specs.declared.wave.WaveNet.{WaveNet}
use Rattle.wave_text.specs.declared.wave.Wave.{Wave}
use Rattle.wave_text.specs.declared.error.WaveError.{WaveError}
use Rattle.wave_text.specs.declared.error.WaveError.TheVariants.{BadWave, Memory}
use Rattle.wave_text.specs.Names.{but_last}
use Rattle.wave_text.specs.Text.{last_line, wave_text}
use Rattle.wave_text.specs.Wave.{IsWave, most_numbers}

-- ---- words
abbrev pub is_space : ℕ → Bool
is_space b = b == 32

-- word k of a line, counted from 0
abbrev pub word_at : ℕ → List ℕ → List ℕ
word_at zero l = before_first is_space l
word_at (suc k) l = word_at k (after_first is_space l)

-- ---- digits
-- the place that an ID names; what is past all places of a wave stays past them
abbrev pub place_of : List ℕ → ℕ
place_of [] = 0
place_of (b ∷ id) = min most_numbers ((b - 33) + 94 * place_of id)

-- the largest number that a net can have
abbrev pub largest : ℕ
largest = 2 ^ 128 - 1

-- the number that binary digits write behind those of n
abbrev pub number_after : ℕ → List ℕ → ℕ
number_after n [] = n
number_after n (b ∷ digits) = number_after (min largest (2 * n + (b - 48))) digits

-- ---- declarations
-- past all widths
abbrev pub too_wide : ℕ
too_wide = 129

abbrev pub at_most_wide : Option ℕ → ℕ
at_most_wide None = 0
at_most_wide (Some n) = min n too_wide

abbrev pub width_of : List ℕ → ℕ
width_of word = at_most_wide (number_of word)

-- a net of the instance `at`
abbrev pub net_in : List (List ℕ) → ℕ → List ℕ → WaveNet
net_in at width base = record { name = join_with_byte 46 (at ++ base ∷ []); width = width }

-- the instance behind a line
abbrev pub path_after : List (List ℕ) → List ℕ → List (List ℕ)
path_after at l =
    if bytes_eq (word_at 0 l) (codes "$scope") then at ++ word_at 2 l ∷ []
    else (if bytes_eq (word_at 0 l) (codes "$upscope") then but_last at else at)

-- the net that a line declares, if it does
abbrev pub nets_in : List (List ℕ) → List ℕ → List WaveNet
nets_in at l = if bytes_eq (word_at 0 l) (codes "$var") then net_in at (width_of (word_at 2 l)) (word_at 4 l) ∷ [] else []

-- the nets that are declared, and the lines behind
abbrev pub read_nets : List (List ℕ) → List WaveNet → List (List ℕ) → List WaveNet × List (List ℕ)
read_nets at seen [] = (seen, [])
read_nets at seen (l ∷ lines) =
    if bytes_eq l last_line then (seen, lines) else read_nets (path_after at l) (seen ++ nets_in at l) lines

-- ---- rows
-- the numbers behind a line, which tells that of one net
abbrev pub noted : List ℕ → List ℕ → List ℕ
noted now [] = now
noted now (b ∷ l) =
    if b == 98 then slice_set now (place_of (after_first is_space l)) (number_after 0 (before_first is_space l))
    else slice_set now (place_of l) (b - 48)

abbrev pub is_mark : List ℕ → Bool
is_mark l = slice_index l 0 == 35

-- the rows that end in these lines, where `now` has been read of the first
abbrev pub read_rows : List ℕ → List (List ℕ) → List (List ℕ)
read_rows now [] = []
read_rows now (l ∷ lines) = if is_mark l then now ∷ read_rows now lines else read_rows (noted now l) lines

-- ---- the whole
abbrev pub first_line : List ℕ → List ℕ
first_line text = before_first is_newline text

abbrev pub behind_line : List ℕ → List ℕ
behind_line text = after_first is_newline text

-- the nets and the lines behind them, the first of which marks row 0
abbrev pub wave_with : List ℕ → List WaveNet × List (List ℕ) → Wave
wave_with top (nets, lines) = record { top = top; nets = nets; rows = read_rows (replicate (length nets) 0) (drop 1 lines) }

abbrev pub wave_of : List ℕ → Wave
wave_of text = wave_with (word_at 2 (first_line (behind_line text))) (read_nets [] [] (file_lines (behind_line (behind_line text))))

-- the text of a wave is read as this wave; so no two waves have one text, and a text is a wave's exactly where it is the text of what
-- is read of it and that is a wave
abbrev pub WaveIsRead : Type 0
WaveIsRead = (w : Wave) → IsWave w → wave_of (wave_text w) ≡ w

-- what may be the wave of this text; no wave can be; want of memory is free
abbrev pub IsCandidate : List ℕ → Result Wave WaveError → Type 0
IsCandidate text (Ok w) = w ≡ wave_of text
IsCandidate text (Err BadWave) = IsWave (wave_of text) → ⊥
IsCandidate text (Err Memory) = Unit {0}

-- the wave of this text; no wave has it; want of memory is free
abbrev pub ReadsWave : List ℕ → Result Wave WaveError → Type 0
ReadsWave text (Ok w) = IsWave w × (text ≡ wave_text w)
ReadsWave text (Err BadWave) = (w : Wave) → IsWave w → text ≡ wave_text w → ⊥
ReadsWave text (Err Memory) = Unit {0}
