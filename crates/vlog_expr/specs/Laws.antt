-- What the reader of expressions means: what is spelled is read, and what is read is spelled.
use Rattle.std.specs.Prelude.{◌≡◌, ◌≤◌, ℕ, Option, None, Some, length}
use Rattle.vlog_tree.specs.declared.terminal.Terminal.TheVariants as t
use Rattle.vlog_tree.specs.Tree.{ExprOf, RefOf, TargetOf}
use Rattle.vlog_tree.specs.Spelling.{expr_words, ref_words, target_words}
use Rattle.vlog_tree.specs.Shape.{IsGoodExpr, IsGoodRef, IsGoodTarget}
use Rattle.vlog_expr.specs.Marks.{Toks, spell, AreWords, AreLawful, after}
use Rattle.vlog_expr.specs.Bare.{forget_all, bare_expr, bare_ref, bare_target}
use Rattle.vlog_expr.specs.Reader.{Read, binary_front, expr_at, ref_at, target_at, fuel_for}

-- no bracket follows, and no operator of this level or above it
pub record Stops {A : Type 0} (l : ℕ) (rest : Toks A) : Type 0 where
  pub index : after t.BracketOpen rest ≡ None
  pub operator : (m : ℕ) → l ≤ m → binary_front m rest ≡ None

-- an expression can't go on with these tokens
pub record Ends {A : Type 0} (rest : Toks A) : Type 0 where
  pub stops : Stops 1 rest
  pub question : after t.Question rest ≡ None

-- the tokens of an expression of good shape, before tokens with which it can't go on, are read as it and these
abbrev pub ExprsAreRead : Type 0
ExprsAreRead =
    (e : ExprOf (Unit {0})) (rest : Toks (Unit {0})) (fuel : ℕ) → IsGoodExpr e → Ends rest → fuel_for (length (expr_words e)) ≤ fuel
    → expr_at fuel (spell tt (expr_words e) rest) ≡ Some (e, rest)

-- the same of a name with its brackets
abbrev pub RefsAreRead : Type 0
RefsAreRead =
    (r : RefOf (Unit {0})) (rest : Toks (Unit {0})) (fuel : ℕ) → IsGoodRef r → after t.BracketOpen rest ≡ None
    → fuel_for (length (ref_words r)) ≤ fuel
    → ref_at fuel (spell tt (ref_words r) rest) ≡ Some (r, rest)

-- the same of a target
abbrev pub TargetsAreRead : Type 0
TargetsAreRead =
    (x : TargetOf (Unit {0})) (rest : Toks (Unit {0})) (fuel : ℕ) → IsGoodTarget x → after t.BracketOpen rest ≡ None
    → fuel_for (length (target_words x)) ≤ fuel
    → target_at fuel (spell tt (target_words x) rest) ≡ Some (x, rest)

-- where something is read, this holds of it
abbrev pub Holds : {X : Type 0} → Option X → (X → Type 0) → Type 0
Holds None P = Unit {0}
Holds (Some x) P = P x

-- of lawful names and numbers, what is read has good shape, and the tokens are its words, lines included, and then the rest
abbrev pub ReadExprsAreSpelled : Type 0 → Type 0
ReadExprsAreSpelled A =
    (fuel : ℕ) (ws : Toks A) → AreLawful ws → Holds (expr_at fuel ws) (λ x. IsGoodExpr x.0
    × AreWords (expr_words x.0) ws x.1)

abbrev pub ReadRefsAreSpelled : Type 0 → Type 0
ReadRefsAreSpelled A =
    (fuel : ℕ) (ws : Toks A) → AreLawful ws → Holds (ref_at fuel ws) (λ x. IsGoodRef x.0
    × AreWords (ref_words x.0) ws x.1)

abbrev pub ReadTargetsAreSpelled : Type 0 → Type 0
ReadTargetsAreSpelled A =
    (fuel : ℕ) (ws : Toks A) → AreLawful ws → Holds (target_at fuel ws)
    (λ x. IsGoodTarget x.0 × AreWords (target_words x.0) ws x.1)

-- no two expressions of good shape have the same words
abbrev pub OneExpr : Type 0
OneExpr = (a b : ExprOf (Unit {0})) → IsGoodExpr a → IsGoodExpr b → expr_words a ≡ expr_words b → a ≡ b

-- what was read, without lines
abbrev pub seen : {A X Y : Type 0} → (X → Y) → Read A X → Read (Unit {0}) Y
seen bare None = None
seen bare (Some x) = Some (bare x.0, forget_all x.1)

-- without their lines the tokens are read as the same tree, without its lines
abbrev pub ExprLinesDontCount : Type 0 → Type 0
ExprLinesDontCount A = (fuel : ℕ) (ws : Toks A) → expr_at fuel (forget_all ws) ≡ seen bare_expr (expr_at fuel ws)

abbrev pub RefLinesDontCount : Type 0 → Type 0
RefLinesDontCount A = (fuel : ℕ) (ws : Toks A) → ref_at fuel (forget_all ws) ≡ seen bare_ref (ref_at fuel ws)

abbrev pub TargetLinesDontCount : Type 0 → Type 0
TargetLinesDontCount A = (fuel : ℕ) (ws : Toks A) → target_at fuel (forget_all ws) ≡ seen bare_target (target_at fuel ws)
