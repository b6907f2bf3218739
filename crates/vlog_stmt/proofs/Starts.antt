-- How an expression begins.
use Rattle.std.proofs.Common.{◌≡◌, if◌then◌else◌, ℕ, Bool, false, ◌&&◌, Option, None, Some, List, [], ◌∷◌, ◌++◌, refl, ap, ◌∙◌}
use Rattle.std.specs.Str.{bytes_eq}
use Rattle.vlog_expr.specs.vlog_lex.declared.token.TokenKind.{TokenKind}
use Rattle.vlog_expr.specs.vlog_lex.declared.token.TokenKind.TheVariants.{Reserved}
use Rattle.vlog_tree.specs.declared.expr.NumberKind.{NumberKind}
use Rattle.vlog_tree.specs.declared.expr.NumberKind.TheVariants as number
use Rattle.vlog_tree.specs.declared.expr.UnaryOp.{UnaryOp}
use Rattle.vlog_tree.specs.declared.expr.UnaryOp.TheVariants as unary
use Rattle.vlog_tree.specs.declared.terminal.Terminal.{Terminal}
use Rattle.vlog_tree.specs.declared.terminal.Terminal.TheVariants as t
use Rattle.vlog_tree.specs.Words.{Fixed, NameAt, NumberAt, FixedAt, number_kind, terminal_kind, terminal_text}
use Rattle.vlog_tree.specs.Tree.{ExprOf, UnaryExpr, BinaryExpr, ChoiceExpr, PrimOf, NumberPrim, RefPrim, ParenPrim, ConcatPrim}
use Rattle.vlog_tree.specs.Tree.{RepeatPrim, RefWith}
use Rattle.vlog_tree.specs.Spelling.{unary_terminal, binary_terminal, expr_words, prim_words, index_words, last_words, exprs_words}
use Rattle.vlog_expr.specs.Marks.{TokenOf, Toks, spelled, spell, same_kind, after}
use Rattle.vlog_expr.proofs.Spelled.{spell_append}
use Rattle.vlog_expr.proofs.Found.{unary_kind}

module _ (A : Type 0) (blank : A) where
  -- no first token of an expression is this terminal
  pub record NoStart (x : Terminal) : Type 0 where
    pub name : (text : List ℕ) (l : A) (r : Toks A) → after x (spelled blank (NameAt text l) ∷ r) ≡ None
    pub number : (kind : NumberKind) (text : List ℕ) (l : A) (r : Toks A) → after x (spelled blank (NumberAt kind text l) ∷ r) ≡ None
    pub sign : (op : UnaryOp) (l : A) (r : Toks A) → after x (spelled blank (FixedAt (unary_terminal op) l) ∷ r) ≡ None
    pub paren : (l : A) (r : Toks A) → after x (spelled blank (FixedAt t.ParenOpen l) ∷ r) ≡ None
    pub brace : (l : A) (r : Toks A) → after x (spelled blank (FixedAt t.BraceOpen l) ∷ r) ≡ None

  prim_start : (x : Terminal) → NoStart x → (p : PrimOf A) (r : Toks A) → after x (spell blank (prim_words p) r) ≡ None
  prim_start x s (NumberPrim n) r = s.number n.kind n.text n.line r
  prim_start x s (RefPrim (RefWith id index last)) r = s.name id.name id.line (spell blank (index_words index ++ last_words last) r)
  prim_start x s (ParenPrim line e) r = s.paren line (spell blank (expr_words e ++ Fixed t.ParenClose ∷ []) r)
  prim_start x s (ConcatPrim line es) r = s.brace line (spell blank (exprs_words es ++ Fixed t.BraceClose ∷ []) r)
  prim_start x s (RepeatPrim line count es) r = s.brace line (spell blank (expr_words count ++ Fixed t.BraceOpen
      ∷ (exprs_words es ++ Fixed t.BraceClose ∷ Fixed t.BraceClose ∷ [])) r)

  pub expr_start : (x : Terminal) → NoStart x → (e : ExprOf A) (r : Toks A) → after x (spell blank (expr_words e) r) ≡ None
  expr_start x s (UnaryExpr None p) r = prim_start x s p r
  expr_start x s (UnaryExpr (Some sign) p) r = s.sign sign.op sign.line (spell blank (prim_words p) r)
  expr_start x s (BinaryExpr a op b) r =
      let tail = Fixed (binary_terminal op) ∷ expr_words b in
      ap (λ (ws : Toks A). after x ws) (spell_append A blank (expr_words a) tail r) ∙ expr_start x s a (spell blank tail r)
  expr_start x s (ChoiceExpr c a b) r =
      let tail = Fixed t.Question ∷ (expr_words a ++ Fixed t.Colon ∷ expr_words b) in
      ap (λ (ws : Toks A). after x ws) (spell_append A blank (expr_words c) tail r) ∙ expr_start x s c (spell blank tail r)

  -- a reserved word is no token of another kind
  abbrev front_if : Bool → TokenOf A → Toks A → Option (A × Toks A)
  front_if b token r = if b then Some (token.line, r) else None

  other_kind : (x : Terminal) (token : TokenOf A) (r : Toks A) → terminal_kind x ≡ Reserved → same_kind token.kind Reserved ≡ false
      → after x (token ∷ r) ≡ None
  other_kind x token r k s =
      ap (λ (kind : TokenKind). front_if (same_kind token.kind kind && bytes_eq token.text (terminal_text x)) token r) k
      ∙ ap (λ (b : Bool). front_if (b && bytes_eq token.text (terminal_text x)) token r) s

  number_other : (kind : NumberKind) → same_kind (number_kind kind) Reserved ≡ false
  number_other number.Decimal = refl
  number_other number.Based = refl

  pub reserved_start : (x : Terminal) → terminal_kind x ≡ Reserved → NoStart x
  reserved_start x k = record {
    name = λ text l r. other_kind x (spelled blank (NameAt text l)) r k refl;
    number = λ kind text l r. other_kind x (spelled blank (NumberAt kind text l)) r k (number_other kind);
    sign = λ op l r.
        other_kind x (spelled blank (FixedAt (unary_terminal op) l)) r k (ap (λ (kind : TokenKind). same_kind kind Reserved)
        (unary_kind op));
    paren = λ l r. other_kind x (spelled blank (FixedAt t.ParenOpen l)) r k refl;
    brace = λ l r. other_kind x (spelled blank (FixedAt t.BraceOpen l)) r k refl;
  }

  number_close : (kind : NumberKind) (text : List ℕ) (l : A) (r : Toks A) → after t.ParenClose (spelled blank
      (NumberAt kind text l) ∷ r) ≡ None
  number_close number.Decimal text l r = refl
  number_close number.Based text l r = refl

  sign_close : (op : UnaryOp) (l : A) (r : Toks A) → after t.ParenClose (spelled blank (FixedAt (unary_terminal op) l) ∷ r) ≡ None
  sign_close unary.Plus l r = refl
  sign_close unary.Minus l r = refl
  sign_close unary.LogicalNot l r = refl
  sign_close unary.BitNot l r = refl
  sign_close unary.And l r = refl
  sign_close unary.Nand l r = refl
  sign_close unary.Or l r = refl
  sign_close unary.Nor l r = refl
  sign_close unary.Xor l r = refl
  sign_close unary.TildeXor l r = refl
  sign_close unary.XorTilde l r = refl

  pub close_start : NoStart t.ParenClose
  close_start = record {
    name = λ text l r. refl;
    number = number_close;
    sign = sign_close;
    paren = λ l r. refl;
    brace = λ l r. refl;
  }
