-- The lines of a file that have words, and the first of them (this project's profile).
use Rattle.std.specs.Prelude.{ℕ, Bool, false, List, [], ◌∷◌, Option, Some, None, if◌then◌else◌}
use Rattle.std.specs.Str.{bytes_eq}
use Rattle.run_model.specs.vidi_bits.Findings.{is_nil}
use Rattle.run_model.specs.chan_map.vidi_lines.declared.lines.Line.{Line}
use Rattle.run_model.specs.chan_map.vidi_lines.Number.{number_of}

-- a line without words; a bad line, which is None, isn't one
abbrev pub is_blank : Option Line → Bool
is_blank None = false
is_blank (Some line) = is_nil line.words

-- the number N of the words `TEXT N`
abbrev pub number_after : List ℕ → List (List ℕ) → Option ℕ
number_after text (word ∷ n ∷ []) = if bytes_eq word text then number_of n else None
number_after text words = None

abbrev pub number_in : List ℕ → Option Line → Option ℕ
number_in text None = None
number_in text (Some line) = number_after text line.words
