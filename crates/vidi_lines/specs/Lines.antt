-- A file's lines, what may stand in them, and their words (this project's profile).
use Rattle.std.specs.Prelude.{◌≡◌, ℕ, ◌+◌, ◌==◌, ◌||◌, not, Bool, true, false, List, [], ◌∷◌, ◌++◌, map, Result, Ok, Err, Option}
use Rattle.std.specs.Prelude.{Some, None}
use Rattle.std.specs.Prelude.{if◌then◌else◌}
use Rattle.std.specs.List.{slice_split, before_first, filter, list_any}
use Rattle.std.specs.Int.{is_in_range}
use Rattle.vidi_lines.specs.declared.lines.Line.{Line}
use Rattle.vidi_lines.specs.declared.error.LineError.{LineError}
use Rattle.vidi_lines.specs.declared.error.LineError.TheVariants.{BadLine, Memory}
use Rattle.vidi_bits.specs.Findings.{is_nil, first, told_if}

abbrev pub is_newline : ℕ → Bool
is_newline b = b == 10

-- `#`
abbrev pub is_hash : ℕ → Bool
is_hash b = b == 35

-- space, tab, carriage return
abbrev pub is_blank : ℕ → Bool
is_blank b = (b == 32) || ((b == 9) || (b == 13))

-- a blank or printable ASCII
abbrev pub may_stand : ℕ → Bool
may_stand b = is_blank b || is_in_range 33 126 b

-- all parts but a last one that is empty
abbrev pub unless_last_empty : List (List ℕ) → List (List ℕ)
unless_last_empty [] = []
unless_last_empty (part ∷ []) = if is_nil part then [] else part ∷ []
unless_last_empty (part ∷ next ∷ parts) = part ∷ unless_last_empty (next ∷ parts)

-- the lines of a file: its parts between newlines; behind a last newline there is none
unfoldable pub file_lines : List ℕ → List (List ℕ)
file_lines bytes = unless_last_empty (slice_split is_newline bytes)

-- a line up to its comment
abbrev pub before_comment : List ℕ → List ℕ
before_comment line = before_first is_hash line

-- a byte stands outside the comment that may not
unfoldable pub is_bad : List ℕ → Bool
is_bad line = list_any (λ b. not (may_stand b)) (before_comment line)

-- what stands between blanks, where that is something
unfoldable pub words_between : List ℕ → List (List ℕ)
words_between text = filter (λ part. not (is_nil part)) (slice_split is_blank text)

-- the words of a line
abbrev pub words_of : List ℕ → Line
words_of line = record { words = words_between (before_comment line) }

-- the words of a line, None where it is bad
abbrev pub line_unless_bad : List ℕ → Option Line
line_unless_bad line = if is_bad line then None else Some (words_of line)

-- the numbers of the bad lines, the first line having number n
abbrev pub bad_from : ℕ → List (List ℕ) → List ℕ
bad_from n [] = []
bad_from n (line ∷ lines) = told_if (is_bad line) n ++ bad_from (n + 1) lines

-- the numbers of a file's bad lines, counted from 1
abbrev pub bad_lines : List ℕ → List ℕ
bad_lines bytes = bad_from 1 (file_lines bytes)

-- the words of each line of a file without a bad line; else the first bad line; want of memory is free
abbrev pub HasLines : List ℕ → Result (List Line) LineError → Type 0
HasLines bytes (Ok lines) = (bad_lines bytes ≡ []) × (lines ≡ map words_of (file_lines bytes))
HasLines bytes (Err (BadLine line)) = first (bad_lines bytes) ≡ Some line
HasLines bytes (Err Memory) = Unit {0}

-- the same of one line with number n
abbrev pub HasWords : ℕ → List ℕ → Result Line LineError → Type 0
HasWords n line (Ok words) = (is_bad line ≡ false) × (words ≡ words_of line)
HasWords n line (Err (BadLine m)) = (is_bad line ≡ true) × (m ≡ n)
HasWords n line (Err Memory) = Unit {0}
