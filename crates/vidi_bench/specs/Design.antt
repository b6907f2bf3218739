-- What a design's text says, or the first reason for which it is refused (this project's profile).
use Rattle.std.specs.Prelude.{ℕ, ◌⊎◌, List, Option, None, Some, map, slice_get}
use Rattle.vlog_parse.specs.vlog_lex.declared.token.Token.{Token}
use Rattle.vlog_parse.specs.vlog_lex.Reading.{HasTokens, IsStuckOn}
use Rattle.vlog_tree.specs.Tree.{FileOf}
use Rattle.vlog_parse.specs.Marks.{all_marked}
use Rattle.vlog_parse.specs.Depth.{IsDeep, IsShallow}
use Rattle.vlog_parse.specs.Parsing.{IsFileOf, IsLinedFileOf}
use Rattle.vlog_parse.specs.Units.{IsItemLine}
use Rattle.vlog_design.specs.vlog_elab.declared.error.ElabError.{ElabError}
use Rattle.net_design.specs.declared.design.Design.{Design}
use Rattle.net_design.specs.declared.design.Driver.{Driver}
use Rattle.vlog_design.specs.net_order.Order.{IsOrder, IsLoop}
use Rattle.vlog_design.specs.Design.{IsDesignOf}
use Rattle.vlog_design.specs.Reasons.{Clear, Refused}
use Rattle.vidi_answer.specs.report_text.declared.reason.Word.TheVariants as words
use Rattle.vidi_answer.specs.report_text.declared.reason.Reason.TheVariants as reasons
use Rattle.vidi_bench.specs.Reasons.{elab_reason}
use Rattle.vidi_answer.specs.Steps.{Ending, IsRefusal, IsRefusalFor, Step}

-- the longest design text, in bytes
abbrev pub text_limit : ℕ
text_limit = 4194304

-- E1: at a place of this line nothing begins
abbrev pub IsNoWord : List ℕ → Ending
IsNoWord text status said = (line : ℕ) × IsStuckOn text line × IsRefusal words.Design (reasons.Word line) status said

-- E14: a limit is passed, first at a token of this line
abbrev pub IsTooDeep : List Token → Ending
IsTooDeep tokens status said = (line : ℕ) × IsDeep (all_marked tokens) line × IsRefusal words.Design (reasons.Deep line) status said

-- E2: else no file has the tokens, and this is the line behind the longest list of whole units
abbrev pub IsNoFile : List Token → Ending
IsNoFile tokens status said = (line : ℕ) × IsItemLine (all_marked tokens) line × IsShallow (all_marked tokens)
    × ((f : FileOf (Unit {0})) → ¬ IsFileOf tokens f) × IsRefusal words.Design (reasons.Item line) status said

-- the tokens spell the file, lines included, and no limit is passed
abbrev pub IsFile : List Token → FileOf ℕ → Type 0
IsFile tokens f = IsShallow (all_marked tokens) × IsLinedFileOf tokens f

-- E1, E14 and E2
abbrev pub IsNoTree : List Token → Ending
IsNoTree tokens status said = IsTooDeep tokens status said ⊎ IsNoFile tokens status said

abbrev pub IsNoText : List ℕ → Ending
IsNoText text = Step (IsNoWord text) (HasTokens text) IsNoTree

-- the text spells the file, lines included, and no limit is passed
abbrev pub Spells : List ℕ → FileOf ℕ → Type 0
Spells text f = (tokens : List Token) × HasTokens text tokens × IsFile tokens f

-- ---- the reasons E3 to E9 and E11 to E13
-- this is the first reason that holds of the file with this top
abbrev pub IsRefusedFile : List ℕ → FileOf ℕ → Ending
IsRefusedFile top f status said = (error : ElabError) × Refused f top error × IsRefusalFor words.Design (elab_reason error) status said

-- none of these reasons holds, and this is the design of the file
abbrev pub IsAccepted : List ℕ → FileOf ℕ → Design → Type 0
IsAccepted top f d = Clear f top × IsDesignOf f top d

-- ---- E10: the lines of the drivers of a loop
abbrev pub line_in : Option Driver → ℕ
line_in None = 0
line_in (Some x) = x.line

abbrev pub line_of : List Driver → ℕ → ℕ
line_of drivers i = line_in (slice_get drivers i)

abbrev pub IsLooped : Design → Ending
IsLooped d status said = (loop : List ℕ) × IsLoop d loop × IsRefusal words.Design (reasons.Loop (map (line_of d.drivers) loop)) status said

-- the text spells a tree, and this comes of it
abbrev pub Spelling : List ℕ → (FileOf ℕ → Ending) → Ending
Spelling text Next = Step (IsNoText text) (Spells text) Next

-- the tree and the top have a design with an order of its drivers, and this comes of it
abbrev pub Building : List ℕ → FileOf ℕ → (Design → Ending) → Ending
Building top f Next = Step (IsRefusedFile top f) (IsAccepted top f) (λ d. Step (IsLooped d) (IsOrder d) (λ _. Next d))
