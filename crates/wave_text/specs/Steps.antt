-- What the steps of reading owe.
use Rattle.std.specs.Prelude.{◌≡◌, ℕ, ◌*◌, ◌<◌, List, [], ◌∷◌, ◌++◌, length, drop, replicate, Result, Ok, Err}
use Rattle.vidi_lines.specs.Lines.{file_lines}
use Rattle.wave_text.specs.declared.error.WaveError.{WaveError}
use Rattle.wave_text.specs.declared.error.WaveError.TheVariants.{BadWave, Memory}
use Rattle.wave_text.specs.Reading.{read_rows}
use Rattle.wave_text.specs.Wave.{most_numbers}

-- more numbers than a wave may have
abbrev pub AreMany : ℕ → List (List ℕ) → Type 0
AreMany nets rows = most_numbers < length rows * nets

-- a line is taken, whatever follows; or the rows are too many, whatever follows; want of memory is free
abbrev pub ReadsLine : List (List ℕ) → List ℕ → List ℕ → List (List ℕ) → List ℕ → Result (Unit {0}) WaveError → Type 0
ReadsLine rows now line rows' now' (Ok done) =
    (lines : List (List ℕ)) → rows ++ read_rows now (line ∷ lines) ≡ rows' ++ read_rows now' lines
ReadsLine rows now line rows' now' (Err BadWave) = (lines : List (List ℕ)) → AreMany (length now) (rows ++ read_rows now (line ∷ lines))
ReadsLine rows now line rows' now' (Err Memory) = Unit {0}

-- the rows behind the mark of row 0, or they are too many; want of memory is free
abbrev pub rows_of : ℕ → List ℕ → List (List ℕ)
rows_of nets text = read_rows (replicate nets 0) (drop 1 (file_lines text))

abbrev pub ReadsRows : ℕ → List ℕ → Result (List (List ℕ)) WaveError → Type 0
ReadsRows nets text (Ok rows) = rows ≡ rows_of nets text
ReadsRows nets text (Err BadWave) = AreMany nets (rows_of nets text)
ReadsRows nets text (Err Memory) = Unit {0}
