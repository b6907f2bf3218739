-- M1: the first line of a map that is bad, of no form, out of place, or missing (this project's profile).
use Rattle.std.specs.Prelude.{◌≡◌, ℕ, ◌+◌, ◌||◌, not, Bool, false, if◌then◌else◌, List, [], ◌∷◌, ◌++◌, map, length, Option, Some, None}
use Rattle.std.specs.Prelude.{Result, Ok, Err}
use Rattle.std.specs.List.{flat_map}
use Rattle.std.specs.Option.{option_to_list, option_map}
use Rattle.vidi_lines.specs.declared.lines.Line.{Line}
use Rattle.vidi_lines.specs.declared.error.LineError.{LineError}
use Rattle.vidi_lines.specs.declared.error.LineError.TheVariants as L
use Rattle.vidi_lines.specs.vidi_bits.Findings.{is_nil, first, told_if}
use Rattle.vidi_lines.specs.Lines.{bad_lines, file_lines, words_of}
use Rattle.chan_map.specs.declared.error.MapError.{MapError}
use Rattle.chan_map.specs.declared.error.MapError.TheVariants as E
use Rattle.chan_map.specs.declared.map_text.Entry.{Entry}
use Rattle.chan_map.specs.declared.map_text.MapLine.{MapLine}
use Rattle.chan_map.specs.declared.text.MapText.{MapText}
use Rattle.chan_map.specs.Forms.{entry_of}
use Rattle.chan_map.specs.Follow.{entries, top_name, clock_name, may_follow}

abbrev pub line_error : LineError → MapError
line_error (L.BadLine line) = E.Line line
line_error L.Memory = E.Memory

abbrev pub may_stand : List Entry → Option Entry → Bool
may_stand before None = false
may_stand before (Some entry) = may_follow before entry

-- the line with number n, where it has words: its words have no listed form, or what they say may not follow the lines before
abbrev pub line_faults : List Entry → ℕ → Line → List ℕ
line_faults before n line = if is_nil line.words then [] else told_if (not (may_stand before (entry_of line.words))) n

-- what the line with number n says
abbrev pub said : ℕ → Line → List MapLine
said n line = option_to_list (option_map (λ (e : Entry). record { line = n; entry = e }) (entry_of line.words))

-- what lines say, the first having number n
abbrev pub all_said : ℕ → List Line → List MapLine
all_said n [] = []
all_said n (line ∷ lines) = said n line ++ all_said (n + 1) lines

-- the numbers of lines at fault behind entries that aren't; behind a first fault the others don't count
abbrev pub form_faults : List Entry → ℕ → List Line → List ℕ
form_faults before n [] = []
form_faults before n (line ∷ lines) = line_faults before n line ++ form_faults (before ++ entries (said n line)) (n + 1) lines

-- the last line's number plus 1, where `top` or `clock` is missing
abbrev pub missing_faults : List Entry → ℕ → List ℕ
missing_faults said last = told_if (is_nil (flat_map top_name said) || is_nil (flat_map clock_name said)) (last + 1)

abbrev pub map_lines : List ℕ → List Line
map_lines bytes = map words_of (file_lines bytes)

-- the three steps of M1, one after the other
abbrev pub text_faults : List ℕ → List ℕ
text_faults bytes = bad_lines bytes
    ++ (form_faults [] 1 (map_lines bytes) ++ missing_faults (entries (all_said 1 (map_lines bytes))) (length (map_lines bytes)))

-- the map holds what its lines say, and the name of its one top
pub record IsText (bytes : List ℕ) (text : MapText) : Type 0 where
  pub lines : text.lines ≡ all_said 1 (map_lines bytes)
  pub top : flat_map top_name (entries text.lines) ≡ text.top ∷ []

-- the first of the findings; want of memory is free
abbrev pub IsFirstLine : List ℕ → MapError → Type 0
IsFirstLine faults (E.Line line) = first faults ≡ Some line
IsFirstLine faults E.Memory = Unit {0}
IsFirstLine faults error = ⊥

-- a map exactly where nothing is found, else the first finding
abbrev pub ReadsMap : List ℕ → Result MapText MapError → Type 0
ReadsMap bytes (Ok text) = (text_faults bytes ≡ []) × IsText bytes text
ReadsMap bytes (Err error) = IsFirstLine (text_faults bytes) error

-- what reading a line leaves, where the lines before said `old`
abbrev pub TakesLine : List MapLine → List MapLine → ℕ → Line → Result (Unit {0}) MapError → Type 0
TakesLine old new n line (Ok done) = (line_faults (entries old) n line ≡ []) × (new ≡ old ++ said n line)
TakesLine old new n line (Err error) = IsFirstLine (line_faults (entries old) n line) error
