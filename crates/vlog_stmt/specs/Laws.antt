-- What the reader of statements means: what is spelled is read, and what is read is spelled.
use Rattle.std.specs.Prelude.{◌≡◌, ◌≤◌, ℕ, None, Some, length, true}
use Rattle.vlog_tree.specs.declared.terminal.Terminal.TheVariants as t
use Rattle.vlog_tree.specs.Tree.{BodyOf}
use Rattle.vlog_tree.specs.Spelling.{body_words}
use Rattle.vlog_tree.specs.Shape.{IsGoodBody, is_open_body}
use Rattle.vlog_expr.specs.Marks.{Toks, spell, AreWords, AreLawful, after}
use Rattle.vlog_expr.specs.Bare.{forget_all}
use Rattle.vlog_expr.specs.Reader.{fuel_for}
use Rattle.vlog_expr.specs.Laws.{Holds, seen}
use Rattle.vlog_stmt.specs.BareStmt.{bare_body}
use Rattle.vlog_stmt.specs.StmtReader.{body_at}

-- the tokens of a body of good shape, before tokens with which it can't go on, are read as it and these: a body, which no `else` follows
-- that would belong to an `if` in it
abbrev pub BodiesAreRead : Type 0
BodiesAreRead =
    (b : BodyOf (Unit {0})) (rest : Toks (Unit {0})) (fuel : ℕ) → IsGoodBody b → (is_open_body b ≡ true → after t.Else rest ≡ None)
    → fuel_for (length (body_words b)) ≤ fuel
    → body_at fuel (spell tt (body_words b) rest) ≡ Some (b, rest)

abbrev pub ReadBodiesAreSpelled : Type 0 → Type 0
ReadBodiesAreSpelled A =
    (fuel : ℕ) (ws : Toks A) → AreLawful ws
    → Holds (body_at fuel ws) (λ x. IsGoodBody x.0 × (is_open_body x.0 ≡ true → after t.Else x.1 ≡ None)
    × AreWords (body_words x.0) ws x.1)

abbrev pub BodyLinesDontCount : Type 0 → Type 0
BodyLinesDontCount A = (fuel : ℕ) (ws : Toks A) → body_at fuel (forget_all ws) ≡ seen bare_body (body_at fuel ws)
