-- The reader of expressions and targets, rule by rule of the grammar. Each call has one less of fuel than its caller.
use Rattle.std.specs.Prelude.{if◌then◌else◌, ℕ, zero, suc, pred, ◌+◌, ◌*◌, ◌==◌, List, [], ◌∷◌, ◌++◌, Option, None, Some, length}
use Rattle.vlog_tree.specs.declared.expr.BinaryOp.{BinaryOp}
use Rattle.vlog_tree.specs.declared.terminal.Terminal.TheVariants as t
use Rattle.vlog_tree.specs.Tree.{IdentOf, SignOf, ExprOf, UnaryExpr, BinaryExpr, ChoiceExpr, PrimOf, NumberPrim, RefPrim, ParenPrim}
use Rattle.vlog_tree.specs.Tree.{ConcatPrim, RepeatPrim, RefOf, RefWith, NoIndex, Index, NoLast, Last, SelOf, IndexSel, PartSel}
use Rattle.vlog_tree.specs.Tree.{IndexedSel, exprs_of}
use Rattle.vlog_tree.specs.Tree.{TargetOf, RefTarget, ConcatTarget, targets_of}
use Rattle.vlog_tree.specs.Shape.{level_of}
use Rattle.vlog_expr.specs.Marks.{TokenOf, Toks, after, name_front, number_front, unary_of, binary_of}

infixl 10 ◌>>=◌
abbrev pub ◌>>=◌ : {A B : Type 0} → Option A → (A → Option B) → Option B
None >>= f = None
(Some x) >>= f = f x

-- what goes on with a finding, or else the other
abbrev pub found_or : {A B : Type 0} → Option A → Option B → (A → Option B) → Option B
found_or None other go = other
found_or (Some x) other go = go x

-- what was read, and the tokens behind it
abbrev pub Read : Type 0 → Type 0 → Type 0
Read A X = Option (X × Toks A)

abbrev pub sign_with : {A : Type 0} → TokenOf A → Toks A → Read A (SignOf A)
sign_with token rest = unary_of token.kind token.text >>= λ op. Some (record { op = op; line = token.line }, rest)

-- an operator before an operand
abbrev pub sign_front : {A : Type 0} → Toks A → Read A (SignOf A)
sign_front [] = None
sign_front (token ∷ rest) = sign_with token rest

-- an operator of this level between two operands
abbrev pub binary_front : {A : Type 0} → ℕ → Toks A → Read A BinaryOp
binary_front level [] = None
binary_front level (token ∷ rest) = binary_of token.kind token.text >>= λ op. if level_of op == level then Some (op, rest) else None

-- the first of two brackets holds an expression
abbrev pub index_of : {A : Type 0} → SelOf A → Option (ExprOf A)
index_of (IndexSel e) = Some e
index_of _ = None

abbrev mutual
  pub expr_at : {A : Type 0} → ℕ → Toks A → Read A (ExprOf A)
  expr_at zero ws = None
  expr_at (suc n) ws = binary_at n 1 ws >>= λ c. choice_at n c.0 c.1

  -- [ "?" expr ":" expr ]
  pub choice_at : {A : Type 0} → ℕ → ExprOf A → Toks A → Read A (ExprOf A)
  choice_at zero c ws = None
  choice_at (suc n) c ws = found_or (after t.Question ws) (Some (c, ws))
      (λ q. expr_at n q.1 >>= λ a. after t.Colon a.1 >>= λ r. expr_at n r.1 >>= λ b. Some (ChoiceExpr c a.0 b.0, b.1))

  -- operands of the level above, with operators of this level between them
  pub binary_at : {A : Type 0} → ℕ → ℕ → Toks A → Read A (ExprOf A)
  binary_at zero level ws = None
  binary_at (suc n) level ws = if level == 11 then unary_at n ws else (binary_at n (level + 1) ws >>= λ a. chain_at n level a.0 a.1)

  -- the operators of this level behind a first operand, from the left
  pub chain_at : {A : Type 0} → ℕ → ℕ → ExprOf A → Toks A → Read A (ExprOf A)
  chain_at zero level left ws = None
  chain_at (suc n) level left ws = found_or (binary_front level ws) (Some (left, ws))
      (λ o. binary_at n (level + 1) o.1 >>= λ b. chain_at n level (BinaryExpr left o.0 b.0) b.1)

  pub unary_at : {A : Type 0} → ℕ → Toks A → Read A (ExprOf A)
  unary_at zero ws = None
  unary_at (suc n) ws = found_or (sign_front ws) (prim_at n ws >>= λ p. Some (UnaryExpr None p.0, p.1))
      (λ s. prim_at n s.1 >>= λ p. Some (UnaryExpr (Some s.0) p.0, p.1))

  pub prim_at : {A : Type 0} → ℕ → Toks A → Read A (PrimOf A)
  prim_at zero ws = None
  prim_at (suc n) ws =
      found_or (number_front ws) (found_or (after t.ParenOpen ws) (found_or (after t.BraceOpen ws)
      (ref_at n ws >>= λ r. Some (RefPrim r.0, r.1)) (λ o. concat_at n o.0 o.1)) (λ o. paren_at n o.0 o.1))
      (λ x. Some (NumberPrim x.0, x.1))

  -- expr ")"
  pub paren_at : {A : Type 0} → ℕ → A → Toks A → Read A (PrimOf A)
  paren_at zero line ws = None
  paren_at (suc n) line ws = expr_at n ws >>= λ e. after t.ParenClose e.1 >>= λ c. Some (ParenPrim line e.0, c.1)

  -- expr { "," expr } "}" | expr "{" expr { "," expr } "}" "}"
  pub concat_at : {A : Type 0} → ℕ → A → Toks A → Read A (PrimOf A)
  concat_at zero line ws = None
  concat_at (suc n) line ws = expr_at n ws >>= λ e. found_or (after t.BraceOpen e.1) (parts_at n (e.0 ∷ []) e.1
      >>= λ es. after t.BraceClose es.1 >>= λ c. Some (ConcatPrim line (exprs_of es.0), c.1)) (λ o. repeat_at n line e.0 o.1)

  -- expr { "," expr } "}" "}" behind a count and its `{`
  pub repeat_at : {A : Type 0} → ℕ → A → ExprOf A → Toks A → Read A (PrimOf A)
  repeat_at zero line count ws = None
  repeat_at (suc n) line count ws = expr_at n ws >>= λ e. parts_at n (e.0 ∷ []) e.1 >>= λ es. after t.BraceClose es.1
      >>= λ i. after t.BraceClose i.1 >>= λ c. Some (RepeatPrim line count (exprs_of es.0), c.1)

  -- { "," expr } behind the parts so far
  pub parts_at : {A : Type 0} → ℕ → List (ExprOf A) → Toks A → Read A (List (ExprOf A))
  parts_at zero front ws = None
  parts_at (suc n) front ws = found_or (after t.Comma ws) (Some (front, ws))
      (λ c. expr_at n c.1 >>= λ e. parts_at n (front ++ e.0 ∷ []) e.1)

  pub ref_at : {A : Type 0} → ℕ → Toks A → Read A (RefOf A)
  ref_at zero ws = None
  ref_at (suc n) ws =
      name_front ws >>= λ id. found_or (after t.BracketOpen id.1) (Some (RefWith id.0 NoIndex NoLast, id.1))
      (λ o. sel_at n o.1 >>= λ s. after t.BracketClose s.1 >>= λ c. second_at n id.0 s.0 c.1)

  -- a second bracket, behind the first one
  pub second_at : {A : Type 0} → ℕ → IdentOf A → SelOf A → Toks A → Read A (RefOf A)
  second_at zero id first ws = None
  second_at (suc n) id first ws =
      found_or (after t.BracketOpen ws) (Some (RefWith id NoIndex (Last first), ws))
      (λ o. index_of first >>= λ i. sel_at n o.1 >>= λ s. after t.BracketClose s.1 >>= λ c. Some (RefWith id (Index i) (Last s.0), c.1))

  pub sel_at : {A : Type 0} → ℕ → Toks A → Read A (SelOf A)
  sel_at zero ws = None
  sel_at (suc n) ws = expr_at n ws >>= λ a. bounds_at n a.0 a.1

  -- [ ":" expr | "+:" expr ] behind a first expression
  pub bounds_at : {A : Type 0} → ℕ → ExprOf A → Toks A → Read A (SelOf A)
  bounds_at zero a ws = None
  bounds_at (suc n) a ws =
      found_or (after t.Colon ws) (found_or (after t.PlusColon ws) (Some (IndexSel a, ws))
      (λ o. expr_at n o.1 >>= λ b. Some (IndexedSel a b.0, b.1))) (λ o. expr_at n o.1 >>= λ b. Some (PartSel a b.0, b.1))

-- operators behind an operand, from level `top` down, as many levels as the third number says; each level has one more of fuel
abbrev pub climb_at : {A : Type 0} → ℕ → ℕ → ℕ → ExprOf A × Toks A → Read A (ExprOf A)
climb_at fuel top zero x = Some x
climb_at fuel top (suc levels) x = chain_at (suc fuel) top x.0 x.1 >>= climb_at (suc fuel) (pred top) levels

abbrev mutual
  pub target_at : {A : Type 0} → ℕ → Toks A → Read A (TargetOf A)
  target_at zero ws = None
  target_at (suc n) ws = found_or (after t.BraceOpen ws) (ref_at n ws >>= λ r. Some (RefTarget r.0, r.1))
      (λ o. target_at n o.1 >>= λ x. targets_at n (x.0 ∷ []) x.1 >>= λ xs. after t.BraceClose xs.1
      >>= λ c. Some (ConcatTarget o.0 (targets_of xs.0), c.1))

  -- { "," target } behind the parts so far
  pub targets_at : {A : Type 0} → ℕ → List (TargetOf A) → Toks A → Read A (List (TargetOf A))
  targets_at zero front ws = None
  targets_at (suc n) front ws = found_or (after t.Comma ws) (Some (front, ws))
      (λ c. target_at n c.1 >>= λ x. targets_at n (front ++ x.0 ∷ []) x.1)

-- { "," x } behind the ones so far
abbrev pub more_at : {A X : Type 0} → (Toks A → Read A X) → ℕ → List X → Toks A → Read A (List X)
more_at one zero front ws = None
more_at one (suc n) front ws = found_or (after t.Comma ws) (Some (front, ws)) (λ c. one c.1 >>= λ x. more_at one n (front ++ x.0 ∷ []) x.1)

-- x { "," x }
abbrev pub some_at : {A X : Type 0} → (Toks A → Read A X) → ℕ → Toks A → Read A (List X)
some_at one n ws = one ws >>= λ x. more_at one n (x.0 ∷ []) x.1

-- what was read, with no token behind it
abbrev pub whole : {A X : Type 0} → X × Toks A → Option X
whole (x, []) = Some x
whole (x, (token ∷ rest)) = None

-- fuel enough for each tree that these tokens could spell
abbrev pub fuel_for : ℕ → ℕ
fuel_for count = 32 * count + 14

-- the expression that all the tokens spell
unfoldable pub expr_of : {A : Type 0} → Toks A → Option (ExprOf A)
expr_of ws = expr_at (fuel_for (length ws)) ws >>= whole
