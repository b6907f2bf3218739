-- What `parse` owes: the file of good shape that the tokens spell, or the reason why there is none.
use Rattle.std.specs.Prelude.{◌≡◌, ℕ, List, []}
use Rattle.vlog_item.specs.vlog_lex.declared.token.Token.{Token}
use Rattle.vlog_tree.specs.Tree.{FileOf}
use Rattle.vlog_tree.specs.Lines.{bare}
use Rattle.vlog_tree.specs.Spelling.{toks, file_words}
use Rattle.vlog_tree.specs.Shape.{IsGood}
use Rattle.vlog_parse.specs.declared.error.ParseError.{ParseError}
use Rattle.vlog_parse.specs.declared.error.ParseError.TheVariants.{Deep, Item, Memory}
use Rattle.vlog_item.specs.vlog_expr.Marks.{all_marked, AreWords}
use Rattle.vlog_item.specs.vlog_expr.Bare.{without_lines}
use Rattle.vlog_parse.specs.Depth.{IsDeep, IsShallow}
use Rattle.vlog_parse.specs.Units.{IsItemLine}

-- a file of good shape that these tokens spell; lines don't count
abbrev pub IsFileOf : List Token → FileOf (Unit {0}) → Type 0
IsFileOf tokens f = IsGood f × (toks f ≡ without_lines tokens)

-- the file has good shape, and the tokens are its words, lines included
abbrev pub IsLinedFileOf : List Token → FileOf ℕ → Type 0
IsLinedFileOf tokens f = IsGood f × AreWords (file_words f) (all_marked tokens) []

-- a limit is passed, first at a token of this line; else no file of good shape has these tokens; want of memory is free
abbrev pub Refuses : List Token → ParseError → Type 0
Refuses tokens (Deep line) = IsDeep (all_marked tokens) line
Refuses tokens (Item line) = IsItemLine (all_marked tokens) line × IsShallow (all_marked tokens)
    × ((f : FileOf (Unit {0})) → ¬ IsFileOf tokens f)
Refuses tokens Memory = Unit {0}

-- no two files of good shape have the same tokens
abbrev pub OneFile : Type 0
OneFile = (a b : FileOf (Unit {0})) → IsGood a → IsGood b → toks a ≡ toks b → a ≡ b

-- the tokens determine the lines of a tree
abbrev pub OneLinedFile : Type 0
OneLinedFile = (tokens : List Token) (a b : FileOf ℕ) → IsLinedFileOf tokens a → IsLinedFileOf tokens b → a ≡ b

-- without its lines such a file has these tokens
abbrev pub LinedFilesAreFiles : Type 0
LinedFilesAreFiles = (tokens : List Token) (f : FileOf ℕ) → IsLinedFileOf tokens f → IsFileOf tokens (bare f)
