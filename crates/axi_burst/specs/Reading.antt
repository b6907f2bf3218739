-- A1: the AXI file of a text, or the line why it is refused (this project's profile). `five` says whether lines of the text name all five
-- channels, so that a line `data` has a form.
use Rattle.std.specs.Prelude.{◌≡◌, ℕ, ◌+◌, ◌==◌, ◌&&◌, Bool, false, if◌then◌else◌, List, [], ◌∷◌, ◌++◌, map}
use Rattle.std.specs.List.{list_any}
use Rattle.std.specs.Prelude.{Option, Some, None, Result, Ok, Err}
use Rattle.vidi_lines.specs.declared.lines.Line.{Line}
use Rattle.vidi_lines.specs.Lines.{file_lines, line_unless_bad}
use Rattle.axi_burst.specs.declared.axi_text.AxiLine.{AxiLine}
use Rattle.axi_burst.specs.declared.axi_text.AxiText.{AxiText}
use Rattle.axi_burst.specs.declared.axi_text.Entry.{Entry}
use Rattle.axi_burst.specs.declared.axi_text.Role.{Role}
use Rattle.axi_burst.specs.declared.axi_text.Role.TheVariants.{WriteAddress, WriteData, WriteResponse, ReadAddress, ReadData}
use Rattle.axi_burst.specs.declared.forms.Keyword.{Keyword}
use Rattle.axi_burst.specs.declared.forms.Keyword.TheVariants as K
use Rattle.axi_burst.specs.declared.error.AxiError.{AxiError}
use Rattle.axi_burst.specs.declared.error.AxiError.TheVariants as e
use Rattle.axi_burst.specs.declared.reading.Known.{Known}
use Rattle.axi_burst.specs.Forms.{beat_of, entry_of, keyword_of}
use Rattle.axi_burst.specs.Kinds.{is_said, is_whole, role_number}

-- ---- whether lines name the channels of all five roles, by their first words alone, whatever follows (where the first line with words is one
-- of them, it is refused itself)
abbrev pub is_keyword : Role → Option Keyword → Bool
is_keyword role (Some (K.Channel own)) = role_number role == role_number own
is_keyword role keyword = false

abbrev pub begins_as : Role → List (List ℕ) → Bool
begins_as role [] = false
begins_as role (first ∷ words) = is_keyword role (keyword_of first)

abbrev pub is_line_of : Role → Option Line → Bool
is_line_of role None = false
is_line_of role (Some line) = begins_as role line.words

abbrev pub has_line : List (Option Line) → Role → Bool
has_line lines role = list_any (is_line_of role) lines

abbrev pub has_five : List (Option Line) → Bool
has_five lines = has_line lines WriteAddress && (has_line lines WriteData && (has_line lines WriteResponse
    && (has_line lines ReadAddress && has_line lines ReadData)))

-- ---- what is known behind some lines: `beat`, where a line had words, and what the lines behind that one say

abbrev pub begun : Known → Option ℕ → Option Known
begun known None = None
begun known (Some beat) = Some (record { beat = Some beat; lines = known.lines })

abbrev pub more : Known → ℕ → Option Entry → Option Known
more known n None = None
more known n (Some entry) =
    if is_said known.lines entry then None
    else Some (record { beat = known.beat; lines = known.lines ++ record { line = n; entry = entry } ∷ [] })

abbrev pub behind_some : Bool → Known → Option ℕ → ℕ → List (List ℕ) → Option Known
behind_some five known None n words = begun known (beat_of words)
behind_some five known (Some beat) n words = more known n (entry_of five words)

-- what is known behind the words of line n, None where they have no form, or one that was said before
abbrev pub behind_words : Bool → Known → ℕ → List (List ℕ) → Option Known
behind_words five known n [] = Some known
behind_words five known n (word ∷ words) = behind_some five known known.beat n (word ∷ words)

-- None for a bad line too, which is None
abbrev pub behind_line : Bool → Known → ℕ → Option Line → Option Known
behind_line five known n None = None
behind_line five known n (Some line) = behind_words five known n line.words

-- ---- the whole file: what it says, or the number of the line why not

-- the data bus's bytes, and what the lines behind that one say
pub record Said : Type 0 where
  pub beat : ℕ
  pub lines : List AxiLine

abbrev pub said : AxiText → Said
said text = record { beat = text.beat; lines = text.lines }

abbrev pub ended : Option ℕ → List AxiLine → ℕ → Result Said ℕ
ended None lines n = Err n
ended (Some beat) lines n = if is_whole lines then Ok (record { beat = beat; lines = lines }) else Err n

abbrev pub go_on : Option Known → (Known → Result Said ℕ) → ℕ → Result Said ℕ
go_on None read n = Err n
go_on (Some known) read n = read known

-- lines from number n on, where this is known; the number behind the last line's where lines are missing
abbrev pub read_from : Bool → Known → ℕ → List (Option Line) → Result Said ℕ
read_from five known n [] = ended known.beat known.lines n
read_from five known n (line ∷ lines) = go_on (behind_line five known n line) (λ next. read_from five next (n + 1) lines) n

abbrev pub nothing : Known
nothing = record { beat = None; lines = [] }

abbrev pub text_of : List (Option Line) → Result Said ℕ
text_of lines = read_from (has_five lines) nothing 1 lines

-- what the lines say, or the line why they say nothing; want of memory is free
abbrev pub Answers : Result Said ℕ → Result AxiText AxiError → Type 0
Answers read (Ok text) = read ≡ Ok (said text)
Answers read (Err (e.Line n)) = read ≡ Err n
Answers read (Err (e.Port n)) = ⊥
Answers read (Err e.Memory) = Unit {0}

abbrev pub ReadsLines : List (Option Line) → Result AxiText AxiError → Type 0
ReadsLines lines result = Answers (text_of lines) result

-- the lines of a file, None for a bad one
abbrev pub read_lines : List ℕ → List (Option Line)
read_lines bytes = map line_unless_bad (file_lines bytes)

abbrev pub ReadsAxi : List ℕ → Result AxiText AxiError → Type 0
ReadsAxi bytes result = ReadsLines (read_lines bytes) result

-- ---- what reading the words of line n does to what is known
abbrev pub Refuses : Option Known → ℕ → AxiError → Type 0
Refuses next n (e.Line line) = (next ≡ None) × (line ≡ n)
Refuses next n (e.Port line) = ⊥
Refuses next n e.Memory = Unit {0}

abbrev pub Takes : Bool → Known → ℕ → List (List ℕ) → Known → Result (Unit {0}) AxiError → Type 0
Takes five old n words new (Ok done) = behind_words five old n words ≡ Some new
Takes five old n words new (Err error) = Refuses (behind_words five old n words) n error
