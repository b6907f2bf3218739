-- The printed text of a tree: its tokens, each with a blank behind it, or with a newline where a line ends.
use Rattle.std.specs.Prelude.{◌≡◌, ℕ, if◌then◌else◌, List, [], ◌∷◌, ◌++◌, codes}
use Rattle.std.specs.List.{flat_map}
use Rattle.vlog_parse.specs.vlog_lex.declared.token.Token.{Token}
use Rattle.vlog_parse.specs.vlog_lex.Words.{is_among}
use Rattle.vlog_parse.specs.vlog_lex.Reading.{HasTokens}
use Rattle.vlog_tree.specs.Tree.{FileOf}
use Rattle.vlog_tree.specs.Spelling.{toks}
use Rattle.vlog_tree.specs.Shape.{IsGood}
use Rattle.vlog_tree.specs.Lines.{bare}
use Rattle.vlog_parse.specs.vlog_expr.Marks.{all_marked}
use Rattle.vlog_parse.specs.vlog_expr.Bare.{without_lines}
use Rattle.vlog_parse.specs.Depth.{IsShallow}
use Rattle.vlog_parse.specs.Parsing.{IsFileOf}

-- the tokens behind which a line ends
abbrev pub line_ends : List (List ℕ)
line_ends = codes ";" ∷ codes "begin" ∷ codes "end" ∷ codes "endcase" ∷ codes "endmodule" ∷ []

-- the byte behind a token: a newline where a line ends, else a blank
abbrev pub gap_behind : List ℕ → ℕ
gap_behind text = if is_among line_ends text then 10 else 32

abbrev pub token_text : Token → List ℕ
token_text t = t.text ++ gap_behind t.text ∷ []

-- the text of these tokens
abbrev pub printed : List Token → List ℕ
printed tokens = flat_map token_text tokens

-- the text has the tree's tokens; lines don't count
abbrev pub IsTextOf : FileOf ℕ → List ℕ → Type 0
IsTextOf f text = (tokens : List Token) × HasTokens text tokens × (without_lines tokens ≡ toks f)

-- the printed text of a tree of good shape has its tokens
abbrev pub PrintedIsSpelled : Type 0
PrintedIsSpelled = (f : FileOf ℕ) → IsGood f → IsTextOf f (printed (toks f))

-- where no limit is passed, its tokens pass none, and the tree is their file: as the texts with tokens have one list of them, and a file's tokens
-- one file, what is read of the printed text is the tree that was printed; lines don't count
abbrev pub PrintedIsRead : Type 0
PrintedIsRead = (f : FileOf ℕ) → IsGood f → IsShallow (all_marked (toks f))
    → (tokens : List Token) × HasTokens (printed (toks f)) tokens × IsShallow (all_marked tokens) × IsFileOf tokens (bare f)
