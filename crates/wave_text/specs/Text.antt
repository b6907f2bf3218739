-- *Wave text* (IEEE 1364-2005, clause 18; this project's profile): the lines of a wave.
use Rattle.std.specs.Prelude.{ℕ, ◌+◌, ◌==◌, if◌then◌else◌, List, [], ◌∷◌, ◌++◌, map, replicate, length, codes, decimal, Option, None, Some}
use Rattle.std.specs.List.{flat_map, join_with_byte}
use Rattle.std.specs.Str.{bytes_eq}
use Rattle.wave_text.specs.declared.wave.WaveNet.{WaveNet}
use Rattle.wave_text.specs.declared.wave.Wave.{Wave}
use Rattle.wave_text.specs.Digits.{id_of, binary}
use Rattle.wave_text.specs.Names.{path_of, base_of}

-- ---- lines: words with one space between two
abbrev pub line : List (List ℕ) → List ℕ
line words = join_with_byte 32 words

abbrev pub ends : List ℕ
ends = codes "$end"

abbrev pub time_line : List ℕ
time_line = line (codes "$timescale" ∷ codes "1" ∷ codes "ns" ∷ ends ∷ [])

abbrev pub scope_line : List ℕ → List ℕ
scope_line name = line (codes "$scope" ∷ codes "module" ∷ name ∷ ends ∷ [])

abbrev pub up_line : List ℕ
up_line = line (codes "$upscope" ∷ ends ∷ [])

abbrev pub last_line : List ℕ
last_line = line (codes "$enddefinitions" ∷ ends ∷ [])

-- net n
abbrev pub var_line : ℕ → WaveNet → List ℕ
var_line n x = line (codes "$var" ∷ codes "wire" ∷ decimal x.width ∷ id_of n ∷ base_of x.name ∷ ends ∷ [])

-- ---- the nets
abbrev pub ups : ℕ → List (List ℕ)
ups n = replicate n up_line

-- out of one instance and into another, where their paths have nothing in common
abbrev pub out_and_in : List (List ℕ) → List (List ℕ) → List (List ℕ)
out_and_in from to = ups (length from) ++ map scope_line to

-- out to the longest common path, and in
abbrev pub moves : List (List ℕ) → List (List ℕ) → List (List ℕ)
moves [] to = out_and_in [] to
moves (x ∷ from) [] = out_and_in (x ∷ from) []
moves (x ∷ from) (y ∷ to) = if bytes_eq x y then moves from to else out_and_in (x ∷ from) (y ∷ to)

-- the nets from number n on, after one in instance `at`, and the end of all scopes, the top's too
abbrev pub net_lines : List (List ℕ) → ℕ → List WaveNet → List (List ℕ)
net_lines at n [] = up_line ∷ ups (length at)
net_lines at n (x ∷ nets) = moves at (path_of x.name) ++ (var_line n x ∷ net_lines (path_of x.name) (n + 1) nets)

abbrev pub declarations : List ℕ → List WaveNet → List (List ℕ)
declarations top nets = time_line ∷ scope_line top ∷ (net_lines [] 0 nets ++ last_line ∷ [])

-- ---- the rows
abbrev pub mark : ℕ → List ℕ
mark t = 35 ∷ decimal t

-- the number x of net n
abbrev pub value_line : ℕ → ℕ → ℕ → List ℕ
value_line n width x = if width == 1 then (48 + x) ∷ id_of n else 98 ∷ (binary x ++ 32 ∷ id_of n)

-- all numbers of the nets from number n on
abbrev pub all_lines : ℕ → List WaveNet → List ℕ → List (List ℕ)
all_lines n (net ∷ nets) (x ∷ xs) = value_line n net.width x ∷ all_lines (n + 1) nets xs
all_lines n nets xs = []

-- those that aren't as in the row before
abbrev pub changed_lines : ℕ → List WaveNet → List ℕ → List ℕ → List (List ℕ)
changed_lines n (net ∷ nets) (a ∷ before) (x ∷ xs) =
    (if a == x then [] else value_line n net.width x ∷ []) ++ changed_lines (n + 1) nets before xs
changed_lines n nets before xs = []

-- a row behind its mark; the first has no row before
abbrev pub row_changes : List WaveNet → Option (List ℕ) → List ℕ → List (List ℕ)
row_changes nets None row = all_lines 0 nets row
row_changes nets (Some before) row = changed_lines 0 nets before row

-- the rows from number t on, and the end
abbrev pub row_lines : List WaveNet → ℕ → Option (List ℕ) → List (List ℕ) → List (List ℕ)
row_lines nets t before [] = mark t ∷ []
row_lines nets t before (row ∷ rows) = mark t ∷ (row_changes nets before row ++ row_lines nets (t + 1) (Some row) rows)

-- ---- the whole
abbrev pub wave_lines : Wave → List (List ℕ)
wave_lines w = declarations w.top w.nets ++ row_lines w.nets 0 None w.rows

-- lines, each with its newline
abbrev pub text_of : List (List ℕ) → List ℕ
text_of lines = flat_map (λ l. l ++ 10 ∷ []) lines

abbrev pub wave_text : Wave → List ℕ
wave_text w = text_of (wave_lines w)
