-- What is read is of good shape and spelled so.
use Rattle.std.proofs.Common.{◌≡◌, if◌then◌else◌, ℕ, zero, suc, ◌+◌, ◌<◌, ◌≤◌, ◌==◌, Bool, true, false, Option, None, Some, List, [], ◌∷◌}
use Rattle.std.proofs.Common.{◌++◌, sym, refl, ap, ◌∙◌, subst, arith, append_assoc, append-nil, eqb-true}
use Rattle.std.proofs.lemmas.Bool.Decides.{nat_tests}
use Rattle.std.specs.Str.{bytes_eq}
use Rattle.std.proofs.lemmas.Bool.{and_parts}
use Rattle.std.proofs.lemmas.Slice.Eq.{bytes_eq-Decides}
use Rattle.vlog_tree.specs.vlog_lex.declared.token.TokenKind.{TokenKind}
use Rattle.vlog_tree.specs.vlog_lex.declared.token.TokenKind.TheVariants.{Identifier, Reserved, Decimal, Based, Other}
use Rattle.vlog_tree.specs.declared.expr.UnaryOp.{UnaryOp}
use Rattle.vlog_tree.specs.declared.expr.UnaryOp.TheVariants as unary
use Rattle.vlog_tree.specs.declared.expr.BinaryOp.{BinaryOp}
use Rattle.vlog_tree.specs.declared.expr.BinaryOp.TheVariants as binary
use Rattle.vlog_tree.specs.declared.terminal.Terminal.{Terminal}
use Rattle.vlog_tree.specs.declared.terminal.Terminal.TheVariants as t
use Rattle.vlog_tree.specs.Words.{WordOf, Fixed, NameAt, FixedAt, terminal_kind, terminal_text}
use Rattle.vlog_tree.specs.Tree.{IdentOf, NumberOf, SignOf, ExprOf, UnaryExpr, BinaryExpr, ChoiceExpr, PrimOf, NumberPrim, RefPrim}
use Rattle.vlog_tree.specs.Tree.{ParenPrim, ConcatPrim, RepeatPrim, RefOf, RefWith, NoIndex, Index, NoLast, Last, SelOf, IndexSel}
use Rattle.vlog_tree.specs.Tree.{PartSel, IndexedSel, ExprsOf, exprs_of}
use Rattle.vlog_tree.specs.Spelling.{unary_terminal, binary_terminal, ident_words, number_words, sign_words, expr_words, prim_words}
use Rattle.vlog_tree.specs.Spelling.{ref_words, sel_words, exprs_words, more_exprs_words}
use Rattle.vlog_tree.specs.Shape.{level_of, level, IsGoodName, IsGoodNumber, IsGoodExpr, IsGoodPrim, IsGoodRef, IsGoodSel, AreGoodExprs}
use Rattle.vlog_tree.specs.Shape.{AreAllGoodExprs}
use Rattle.vlog_expr.specs.Marks.{TokenOf, Toks, IsWord, AreWords, IsLawfulText, AreLawful, same_kind, is_terminal, after, is_name}
use Rattle.vlog_expr.specs.Marks.{name_front, number_of, number_with, number_front, operator_among, operator_of, unary_of, binary_of}
use Rattle.vlog_expr.specs.Marks.{unary_operators, binary_operators}
use Rattle.vlog_expr.specs.Reader.{◌>>=◌, found_or, sign_front, binary_front, index_of, expr_at, choice_at, binary_at, chain_at, unary_at}
use Rattle.vlog_expr.specs.Reader.{prim_at, paren_at, concat_at, repeat_at, parts_at, ref_at, second_at, sel_at, bounds_at}
use Rattle.vlog_expr.specs.Laws.{Holds}

pub bind : {X Y : Type 0} (P : X → Type 0) (Q : Y → Type 0) (o : Option X) (f : X → Option Y) → Holds o P → ((x : X) → P x → Holds (f x) Q)
    → Holds (o >>= f) Q
bind P Q None f h k = tt
bind P Q (Some x) f h k = k x h

pub found : {X Y : Type 0} (P : X → Type 0) (Q : Y → Type 0) (o : Option X) (other : Option Y) (f : X → Option Y) → Holds o P
    → Holds other Q → ((x : X) → P x → Holds (f x) Q) → Holds (found_or o other f) Q
found P Q None other f h e k = e
found P Q (Some x) other f h e k = k x h

pub chosen : {Y : Type 0} (Q : Y → Type 0) (b : Bool) (x y : Option Y) → (b ≡ true → Holds x Q) → (b ≡ false → Holds y Q)
    → Holds (if b then x else y) Q
chosen Q true x y h k = h refl
chosen Q false x y h k = k refl

same_kind_true : (a b : TokenKind) → same_kind a b ≡ true → a ≡ b
same_kind_true Identifier Identifier h = refl
same_kind_true Identifier Reserved h = cc
same_kind_true Identifier Decimal h = cc
same_kind_true Identifier Based h = cc
same_kind_true Identifier Other h = cc
same_kind_true Reserved Identifier h = cc
same_kind_true Reserved Reserved h = refl
same_kind_true Reserved Decimal h = cc
same_kind_true Reserved Based h = cc
same_kind_true Reserved Other h = cc
same_kind_true Decimal Identifier h = cc
same_kind_true Decimal Reserved h = cc
same_kind_true Decimal Decimal h = refl
same_kind_true Decimal Based h = cc
same_kind_true Decimal Other h = cc
same_kind_true Based Identifier h = cc
same_kind_true Based Reserved h = cc
same_kind_true Based Decimal h = cc
same_kind_true Based Based h = refl
same_kind_true Based Other h = cc
same_kind_true Other Identifier h = cc
same_kind_true Other Reserved h = cc
same_kind_true Other Decimal h = cc
same_kind_true Other Based h = cc
same_kind_true Other Other h = refl

pub unary_kind : (op : UnaryOp) → terminal_kind (unary_terminal op) ≡ Other
unary_kind unary.Plus = refl
unary_kind unary.Minus = refl
unary_kind unary.LogicalNot = refl
unary_kind unary.BitNot = refl
unary_kind unary.And = refl
unary_kind unary.Nand = refl
unary_kind unary.Or = refl
unary_kind unary.Nor = refl
unary_kind unary.Xor = refl
unary_kind unary.TildeXor = refl
unary_kind unary.XorTilde = refl

binary_kind : (op : BinaryOp) → terminal_kind (binary_terminal op) ≡ Other
binary_kind binary.LogicalOr = refl
binary_kind binary.LogicalAnd = refl
binary_kind binary.Or = refl
binary_kind binary.Xor = refl
binary_kind binary.XorTilde = refl
binary_kind binary.TildeXor = refl
binary_kind binary.And = refl
binary_kind binary.Equal = refl
binary_kind binary.NotEqual = refl
binary_kind binary.Less = refl
binary_kind binary.LessOrEqual = refl
binary_kind binary.Greater = refl
binary_kind binary.GreaterOrEqual = refl
binary_kind binary.ShiftLeft = refl
binary_kind binary.ShiftRight = refl
binary_kind binary.ArithmeticShiftLeft = refl
binary_kind binary.ArithmeticShiftRight = refl
binary_kind binary.Plus = refl
binary_kind binary.Minus = refl
binary_kind binary.Times = refl

among_sound : {Op : Type 0} (terminal : Op → Terminal) (ops : List Op) (text : List ℕ)
    → Holds (operator_among terminal ops text) (λ op. text ≡ terminal_text (terminal op))
among_sound terminal [] text = tt
among_sound terminal (op ∷ ops) text =
    chosen (λ op. text ≡ terminal_text (terminal op)) (bytes_eq text (terminal_text (terminal op))) (Some op)
    (operator_among terminal ops text)
    (λ h. (bytes_eq-Decides text (terminal_text (terminal op))).0 h) (λ h. among_sound terminal ops text)

both : {Op : Type 0} (terminal : Op → Terminal) (kind : TokenKind) (text : List ℕ) (o : Option Op) → kind ≡ Other
    → Holds o (λ op. text ≡ terminal_text (terminal op)) → Holds o (λ op. (kind ≡ Other) × (text ≡ terminal_text (terminal op)))
both terminal kind text None k h = tt
both terminal kind text (Some op) k h = (k, h)

operator_sound : {Op : Type 0} (terminal : Op → Terminal) (ops : List Op) (kind : TokenKind) (text : List ℕ)
    → Holds (operator_of terminal ops kind text) (λ op. (kind ≡ Other) × (text ≡ terminal_text (terminal op)))
operator_sound terminal ops kind text =
    chosen (λ op. (kind ≡ Other) × (text ≡ terminal_text (terminal op))) (same_kind kind Other) (operator_among terminal ops text) None
    (λ h. both terminal kind text (operator_among terminal ops text) (same_kind_true kind Other h) (among_sound terminal ops text))
    (λ h. tt)

-- words, and then others
pub words_join : {A : Type 0} (a b : List (WordOf A)) (ws mid rest : Toks A) → AreWords a ws mid → AreWords b mid rest
    → AreWords (a ++ b) ws rest
words_join {A} [] b ws mid rest f g = subst (λ (us : Toks A). AreWords b us rest) (sym f) g
words_join (w ∷ a) b [] mid rest f g = absurd f
words_join (w ∷ a) b (token ∷ ws) mid rest f g = (f.0, words_join a b ws mid rest f.1 g)

module _ (A : Type 0) where
  -- the tokens are these words and then the rest, whose names and numbers are lawful
  pub record From (ws : Toks A) (words : List (WordOf A)) (rest : Toks A) : Type 0 where
    pub spells : AreWords words ws rest
    pub lawful : AreLawful rest

  pub join : (ws mid rest : Toks A) (a b : List (WordOf A)) → From ws a mid → From mid b rest → From ws (a ++ b) rest
  join ws mid rest a b f g = record { spells = words_join a b ws mid rest f.spells g.spells; lawful = g.lawful }

  pub again : (ws rest : Toks A) (a b : List (WordOf A)) → a ≡ b → From ws a rest → From ws b rest
  again ws rest a b e f = subst (λ (x : List (WordOf A)). From ws x rest) e f

  start : (ws : Toks A) → AreLawful ws → From ws [] ws
  start ws h = record { spells = refl; lawful = h }

  -- one token of this word
  one : (token : TokenOf A) (rest : Toks A) (w : WordOf A) → IsWord w token → AreLawful rest → From (token ∷ rest) (w ∷ []) rest
  one token rest w e h = record { spells = (e, refl); lawful = h }

  -- the same with and without its line
  after_as : (word : A → WordOf A) (x : Terminal) (ws : Toks A)
      → ((token : TokenOf A) → token.kind ≡ terminal_kind x → token.text ≡ terminal_text x → IsWord (word token.line) token)
      → AreLawful ws → Holds (after x ws) (λ r. From ws (word r.0 ∷ []) r.1)
  after_as word x [] is h = tt
  after_as word x (token ∷ rest) is h =
      chosen (λ (r : A × Toks A). From (token ∷ rest) (word r.0 ∷ []) r.1) (is_terminal x token) (Some (token.line, rest)) None
      (λ same.
      let parts = and_parts (same_kind token.kind (terminal_kind x)) (bytes_eq token.text (terminal_text x)) same in
      let k = same_kind_true token.kind (terminal_kind x) parts.0 in
      let e = (bytes_eq-Decides token.text (terminal_text x)).0 parts.1 in
      one token rest (word token.line) (is token k e) h.1)
      (λ other. tt)

  pub after_sound : (x : Terminal) (ws : Toks A) → AreLawful ws → Holds (after x ws) (λ r. From ws (Fixed x ∷ []) r.1)
  after_sound x ws h = after_as (λ line. Fixed x) x ws (λ token k e i. record { kind = k i; text = e i; line = token.line }) h

  pub after_at_sound : (x : Terminal) (ws : Toks A) → AreLawful ws → Holds (after x ws) (λ r. From ws (FixedAt x r.0 ∷ []) r.1)
  after_at_sound x ws h = after_as (λ line. FixedAt x line) x ws (λ token k e i. record { kind = k i; text = e i; line = token.line }) h

  abbrev AtName : Toks A → IdentOf A × Toks A → Type 0
  AtName ws x = IsGoodName x.0.name × From ws (ident_words x.0) x.1

  name_sound : (ws : Toks A) → AreLawful ws → Holds (name_front ws) (AtName ws)
  name_sound [] h = tt
  name_sound (token ∷ rest) h =
      chosen (AtName (token ∷ rest)) (is_name token.kind) (Some (record { name = token.text; line = token.line }, rest)) None
      (λ same.
      let k = same_kind_true token.kind Identifier same in (
        subst (λ (kind : TokenKind). IsLawfulText kind token.text) k h.0,
        one token rest (NameAt token.text token.line)
            (λ i. record { kind = k i; text = token.text; line = token.line }) h.1,
      ))
      (λ other. tt)

  abbrev AtNumber : Toks A → NumberOf A × Toks A → Type 0
  AtNumber ws x = IsGoodNumber x.0 × From ws (number_words x.0) x.1

  number_cases : (kind : TokenKind) (text : List ℕ) (line : A) (rest : Toks A) → IsLawfulText kind text → AreLawful rest
      → Holds (number_with (record { kind = kind; text = text; line = line }) rest (number_of kind))
      (AtNumber (record { kind = kind; text = text; line = line } ∷ rest))
  number_cases Identifier text line rest g h = tt
  number_cases Reserved text line rest g h = tt
  number_cases Decimal text line rest g h = (g, record { spells = (refl, refl); lawful = h })
  number_cases Based text line rest g h = (g, record { spells = (refl, refl); lawful = h })
  number_cases Other text line rest g h = tt

  number_sound : (ws : Toks A) → AreLawful ws → Holds (number_front ws) (AtNumber ws)
  number_sound [] h = tt
  number_sound (token ∷ rest) h = number_cases token.kind token.text token.line rest h.0 h.1

  abbrev SignAt : Toks A → SignOf A × Toks A → Type 0
  SignAt ws x = From ws (sign_words (Some x.0)) x.1

  sign_sound : (ws : Toks A) → AreLawful ws → Holds (sign_front ws) (SignAt ws)
  sign_sound [] h = tt
  sign_sound (token ∷ rest) h =
      bind (λ (op : UnaryOp). (token.kind ≡ Other) × (token.text ≡ terminal_text (unary_terminal op))) (SignAt (token ∷ rest))
      (unary_of token.kind token.text) (λ op. Some (record { op = op; line = token.line }, rest))
      (operator_sound unary_terminal unary_operators token.kind token.text)
      (λ op g.
      let k = g.0 ∙ sym (unary_kind op) in
      let e = g.1 in
      one token rest (FixedAt (unary_terminal op) token.line) (λ i. record { kind = k i; text = e i; line = token.line }) h.1)

  abbrev BinaryAt : ℕ → Toks A → BinaryOp × Toks A → Type 0
  BinaryAt l ws x = (level_of x.0 ≡ l) × From ws (Fixed (binary_terminal x.0) ∷ []) x.1

  binary_sound : (l : ℕ) (ws : Toks A) → AreLawful ws → Holds (binary_front l ws) (BinaryAt l ws)
  binary_sound l [] h = tt
  binary_sound l (token ∷ rest) h =
      bind (λ (op : BinaryOp). (token.kind ≡ Other) × (token.text ≡ terminal_text (binary_terminal op))) (BinaryAt l (token ∷ rest))
      (binary_of token.kind token.text) (λ op. if level_of op == l then Some (op, rest) else None)
      (operator_sound binary_terminal binary_operators token.kind token.text)
      (λ op g. chosen (BinaryAt l (token ∷ rest)) (level_of op == l) (Some (op, rest)) None
      (λ same.
      let k = g.0 ∙ sym (binary_kind op) in
      let e = g.1 in (
        eqb-true (level_of op) l same,
        one token rest (Fixed (binary_terminal op))
            (λ i. record { kind = k i; text = e i; line = token.line }) h.1,
      ))
      (λ other. tt))

  abbrev pub AtExpr : Toks A → ExprOf A × Toks A → Type 0
  AtExpr w x = IsGoodExpr x.0 × From w (expr_words x.0) x.1

  abbrev AtLevel : ℕ → Toks A → ExprOf A × Toks A → Type 0
  AtLevel l w x = (l ≤ level x.0) × IsGoodExpr x.0 × From w (expr_words x.0) x.1

  abbrev pub AtPrim : Toks A → PrimOf A × Toks A → Type 0
  AtPrim w x = IsGoodPrim x.0 × From w (prim_words x.0) x.1

  abbrev pub AtParts : Toks A → List (ExprOf A) × Toks A → Type 0
  AtParts w x = AreGoodExprs (exprs_of x.0) × From w (exprs_words (exprs_of x.0)) x.1

  abbrev pub AtRef : Toks A → RefOf A × Toks A → Type 0
  AtRef w x = IsGoodRef x.0 × From w (ref_words x.0) x.1

  abbrev pub AtSel : Toks A → SelOf A × Toks A → Type 0
  AtSel w x = IsGoodSel x.0 × From w (sel_words x.0) x.1

  -- a replication's front: its `{`, its count and the second `{`
  abbrev pub CountAt : A → Toks A → ExprOf A → Toks A → Type 0
  CountAt line w count ws = IsGoodExpr count × From w (FixedAt t.BraceOpen line ∷ (expr_words count ++ Fixed t.BraceOpen ∷ [])) ws

  more_snoc : (xs : List (ExprOf A)) (e : ExprOf A) → more_exprs_words (exprs_of (xs ++ e ∷ [])) ≡ more_exprs_words (exprs_of xs)
      ++ Fixed t.Comma ∷ expr_words e
  more_snoc [] e = ap (λ (ws : List (WordOf A)). Fixed t.Comma ∷ ws) (append-nil (expr_words e))
  more_snoc (x ∷ xs) e =
      ap (λ (ws : List (WordOf A)). Fixed t.Comma ∷ (expr_words x ++ ws)) (more_snoc xs e)
      ∙ ap (λ (ws : List (WordOf A)). Fixed t.Comma ∷ ws) (sym (append_assoc (expr_words x) (more_exprs_words (exprs_of xs))
      (Fixed t.Comma ∷ expr_words e)))

  good_more_snoc : (xs : List (ExprOf A)) (e : ExprOf A) → AreAllGoodExprs (exprs_of xs) → IsGoodExpr e
      → AreAllGoodExprs (exprs_of (xs ++ e ∷ []))
  good_more_snoc [] e g h = (h, tt)
  good_more_snoc (x ∷ xs) e g h = (g.0, good_more_snoc xs e g.1 h)

  parts_snoc : (w mid rest : Toks A) (xs : List (ExprOf A)) (e : ExprOf A) → AtParts w (xs, mid) → IsGoodExpr e
      → From mid (Fixed t.Comma ∷ expr_words e) rest → AtParts w (xs ++ e ∷ [], rest)
  parts_snoc w mid rest [] e g h f = absurd g.0
  parts_snoc w mid rest (x ∷ xs) e g h f = (
    (g.0.0, good_more_snoc xs e g.0.1 h),
    again w rest ((expr_words x ++ more_exprs_words (exprs_of xs)) ++ Fixed t.Comma ∷ expr_words e)
        (expr_words x ++ more_exprs_words (exprs_of (xs ++ e ∷ [])))
        (append_assoc (expr_words x) (more_exprs_words (exprs_of xs)) (Fixed t.Comma ∷ expr_words e)
        ∙ ap (λ (ws : List (WordOf A)). expr_words x ++ ws) (sym (more_snoc xs e)))
        (join w mid rest (expr_words x ++ more_exprs_words (exprs_of xs)) (Fixed t.Comma ∷ expr_words e) g.1 f),
  )

  first_part : (w : Toks A) (e : ExprOf A × Toks A) → AtExpr w e → AtParts w (e.0 ∷ [], e.1)
  first_part w e g = ((g.0, tt), again w e.1 (expr_words e.0) (expr_words e.0 ++ []) (sym (append-nil (expr_words e.0))) g.1)

  pub record Sound (n : ℕ) : Type 0 where
    pub expr : (ws : Toks A) → AreLawful ws → Holds (expr_at n ws) (AtExpr ws)
    pub choice : (w ws : Toks A) (c : ExprOf A) → AtLevel 1 w (c, ws) → Holds (choice_at n c ws) (AtExpr w)
    pub binary : (l : ℕ) (ws : Toks A) → l ≤ 11 → AreLawful ws → Holds (binary_at n l ws) (AtLevel l ws)
    pub chain : (l : ℕ) (w ws : Toks A) (e : ExprOf A) → l ≤ 10 → AtLevel l w (e, ws) → Holds (chain_at n l e ws) (AtLevel l w)
    pub unary : (ws : Toks A) → AreLawful ws → Holds (unary_at n ws) (AtLevel 11 ws)
    pub prim : (ws : Toks A) → AreLawful ws → Holds (prim_at n ws) (AtPrim ws)
    pub paren : (w ws : Toks A) (line : A) → From w (FixedAt t.ParenOpen line ∷ []) ws → Holds (paren_at n line ws) (AtPrim w)
    pub concat : (w ws : Toks A) (line : A) → From w (FixedAt t.BraceOpen line ∷ []) ws → Holds (concat_at n line ws) (AtPrim w)
    pub repeat : (w ws : Toks A) (line : A) (count : ExprOf A) → CountAt line w count ws → Holds (repeat_at n line count ws) (AtPrim w)
    pub parts : (w ws : Toks A) (xs : List (ExprOf A)) → AtParts w (xs, ws) → Holds (parts_at n xs ws) (AtParts w)
    pub ref : (ws : Toks A) → AreLawful ws → Holds (ref_at n ws) (AtRef ws)
    pub second : (w ws : Toks A) (id : IdentOf A) (s : SelOf A) → AtRef w (RefWith id NoIndex (Last s), ws)
        → Holds (second_at n id s ws) (AtRef w)
    pub sel : (ws : Toks A) → AreLawful ws → Holds (sel_at n ws) (AtSel ws)
    pub bounds : (w ws : Toks A) (e : ExprOf A) → AtExpr w (e, ws) → Holds (bounds_at n e ws) (AtSel w)

  abbrev pub Behind : Terminal → Toks A → A × Toks A → Type 0
  Behind x ws r = From ws (Fixed x ∷ []) r.1

  -- the same, where the tree keeps its line
  abbrev pub BehindAt : Terminal → Toks A → A × Toks A → Type 0
  BehindAt x ws r = From ws (FixedAt x r.0 ∷ []) r.1

  module _ (n : ℕ) (s : Sound n) where
    expr_sound : (ws : Toks A) → AreLawful ws → Holds (expr_at (suc n) ws) (AtExpr ws)
    expr_sound ws h =
        bind (AtLevel 1 ws) (AtExpr ws) (binary_at n 1 ws) (λ c. choice_at n c.0 c.1) (s.binary 1 ws (omega arith) h)
        (λ c g. s.choice ws c.1 c.0 g)

    choice_sound : (w ws : Toks A) (c : ExprOf A) → AtLevel 1 w (c, ws) → Holds (choice_at (suc n) c ws) (AtExpr w)
    choice_sound w ws c g =
        found (Behind t.Question ws) (AtExpr w) (after t.Question ws) (Some (c, ws))
        (λ q. expr_at n q.1 >>= λ a. after t.Colon a.1 >>= λ r. expr_at n r.1 >>= λ b. Some (ChoiceExpr c a.0 b.0, b.1))
        (after_sound t.Question ws g.2.lawful) (g.1, g.2)
        (λ q fq. bind (AtExpr q.1) (AtExpr w) (expr_at n q.1) (λ a. after t.Colon a.1 >>= λ r. expr_at n r.1
        >>= λ b. Some (ChoiceExpr c a.0 b.0, b.1)) (s.expr q.1 fq.lawful)
        (λ a ga. bind (Behind t.Colon a.1) (AtExpr w) (after t.Colon a.1) (λ r. expr_at n r.1 >>= λ b. Some (ChoiceExpr c a.0 b.0, b.1))
        (after_sound t.Colon a.1 ga.1.lawful)
        (λ r fr. bind (AtExpr r.1) (AtExpr w) (expr_at n r.1) (λ b. Some (ChoiceExpr c a.0 b.0, b.1)) (s.expr r.1 fr.lawful)
        (λ b gb. (
          (g.0, g.1, ga.0, gb.0),
          join w ws b.1 (expr_words c) (Fixed t.Question ∷ (expr_words a.0 ++ Fixed t.Colon ∷ expr_words b.0)) g.2
              (join ws q.1 b.1 (Fixed t.Question ∷ []) (expr_words a.0 ++ Fixed t.Colon ∷ expr_words b.0) fq
              (join q.1 a.1 b.1 (expr_words a.0) (Fixed t.Colon ∷ expr_words b.0) ga.1
              (join a.1 r.1 b.1 (Fixed t.Colon ∷ []) (expr_words b.0) fr gb.1))),
        )))))

    binary_at_sound : (l : ℕ) (ws : Toks A) → l ≤ 11 → AreLawful ws → Holds (binary_at (suc n) l ws) (AtLevel l ws)
    binary_at_sound l ws small h =
        chosen (AtLevel l ws) (l == 11) (unary_at n ws) (binary_at n (l + 1) ws >>= λ a. chain_at n l a.0 a.1)
        (λ same. subst (λ (m : ℕ). Holds (unary_at n ws) (AtLevel m ws)) (sym (eqb-true l 11 same)) (s.unary ws h))
        (λ other.
        let low : l ≤ 10 = below l small other in
        bind (AtLevel (l + 1) ws) (AtLevel l ws) (binary_at n (l + 1) ws) (λ a. chain_at n l a.0 a.1) (s.binary (l + 1) ws (omega arith) h)
        (λ a g. s.chain l ws a.1 a.0 low (weaken l (level a.0) g.0, g.1, g.2)))
      where
        below : (l : ℕ) → l ≤ 11 → (l == 11) ≡ false → l ≤ 10
        below l small other = grind (arith, nat_tests)

        weaken : (l m : ℕ) → l + 1 ≤ m → l ≤ m
        weaken l m h = omega arith

    chain_sound : (l : ℕ) (w ws : Toks A) (e : ExprOf A) → l ≤ 10 → AtLevel l w (e, ws) → Holds (chain_at (suc n) l e ws) (AtLevel l w)
    chain_sound l w ws e low g =
        found (BinaryAt l ws) (AtLevel l w) (binary_front l ws) (Some (e, ws))
        (λ o. binary_at n (l + 1) o.1 >>= λ b. chain_at n l (BinaryExpr e o.0 b.0) b.1)
        (binary_sound l ws g.2.lawful) g
        (λ o go. bind (AtLevel (l + 1) o.1) (AtLevel l w) (binary_at n (l + 1) o.1) (λ b. chain_at n l (BinaryExpr e o.0 b.0) b.1)
        (s.binary (l + 1) o.1 (omega arith) go.1.lawful)
        (λ b gb. s.chain l w b.1 (BinaryExpr e o.0 b.0) low (
          at_least (level_of o.0) l go.0,
          (left (level_of o.0) l (level e) go.0 g.0, right (level_of o.0) l (level b.0) go.0 gb.0, g.1, gb.1),
          join w ws b.1 (expr_words e) (Fixed (binary_terminal o.0) ∷ expr_words b.0) g.2
              (join ws o.1 b.1 (Fixed (binary_terminal o.0) ∷ []) (expr_words b.0) go.1 gb.2),
        )))
      where
        at_least : (k l : ℕ) → k ≡ l → l ≤ k
        at_least k l e = omega arith

        left : (k l m : ℕ) → k ≡ l → l ≤ m → k ≤ m
        left k l m e h = omega arith

        right : (k l m : ℕ) → k ≡ l → l + 1 ≤ m → k < m
        right k l m e h = omega arith

    unary_sound : (ws : Toks A) → AreLawful ws → Holds (unary_at (suc n) ws) (AtLevel 11 ws)
    unary_sound ws h =
        found (SignAt ws) (AtLevel 11 ws) (sign_front ws) (prim_at n ws >>= λ p. Some (UnaryExpr None p.0, p.1))
        (λ x. prim_at n x.1 >>= λ p. Some (UnaryExpr (Some x.0) p.0, p.1))
        (sign_sound ws h)
        (bind (AtPrim ws) (AtLevel 11 ws) (prim_at n ws) (λ p. Some (UnaryExpr None p.0, p.1)) (s.prim ws h)
        (λ p g. (omega arith, g.0, g.1)))
        (λ x f. bind (AtPrim x.1) (AtLevel 11 ws) (prim_at n x.1) (λ p. Some (UnaryExpr (Some x.0) p.0, p.1)) (s.prim x.1 f.lawful)
        (λ p g. (omega arith, g.0, join ws x.1 p.1 (sign_words (Some x.0)) (prim_words p.0) f g.1)))

    prim_sound : (ws : Toks A) → AreLawful ws → Holds (prim_at (suc n) ws) (AtPrim ws)
    prim_sound ws h =
        found (AtNumber ws) (AtPrim ws) (number_front ws) (found_or (after t.ParenOpen ws)
        (found_or (after t.BraceOpen ws) (ref_at n ws >>= λ r. Some (RefPrim r.0, r.1)) (λ o. concat_at n o.0 o.1))
        (λ o. paren_at n o.0 o.1)) (λ x. Some (NumberPrim x.0, x.1))
        (number_sound ws h)
        (found (BehindAt t.ParenOpen ws) (AtPrim ws) (after t.ParenOpen ws)
        (found_or (after t.BraceOpen ws) (ref_at n ws >>= λ r. Some (RefPrim r.0, r.1)) (λ o. concat_at n o.0 o.1))
        (λ o. paren_at n o.0 o.1)
        (after_at_sound t.ParenOpen ws h)
        (found (BehindAt t.BraceOpen ws) (AtPrim ws) (after t.BraceOpen ws) (ref_at n ws >>= λ r. Some (RefPrim r.0, r.1))
        (λ o. concat_at n o.0 o.1)
        (after_at_sound t.BraceOpen ws h)
        (bind (AtRef ws) (AtPrim ws) (ref_at n ws) (λ r. Some (RefPrim r.0, r.1)) (s.ref ws h) (λ r g. (g.0, g.1)))
        (λ o f. s.concat ws o.1 o.0 f))
        (λ o f. s.paren ws o.1 o.0 f))
        (λ x g. (g.0, g.1))

    paren_sound : (w ws : Toks A) (line : A) → From w (FixedAt t.ParenOpen line ∷ []) ws → Holds (paren_at (suc n) line ws) (AtPrim w)
    paren_sound w ws line f =
        bind (AtExpr ws) (AtPrim w) (expr_at n ws) (λ e. after t.ParenClose e.1 >>= λ c. Some (ParenPrim line e.0, c.1))
        (s.expr ws f.lawful)
        (λ e g. bind (Behind t.ParenClose e.1) (AtPrim w) (after t.ParenClose e.1) (λ c. Some (ParenPrim line e.0, c.1))
        (after_sound t.ParenClose e.1 g.1.lawful)
        (λ c fc. (
          g.0,
          join w ws c.1 (FixedAt t.ParenOpen line ∷ []) (expr_words e.0 ++ Fixed t.ParenClose ∷ []) f
              (join ws e.1 c.1 (expr_words e.0) (Fixed t.ParenClose ∷ []) g.1 fc),
        )))

    concat_sound : (w ws : Toks A) (line : A) → From w (FixedAt t.BraceOpen line ∷ []) ws → Holds (concat_at (suc n) line ws) (AtPrim w)
    concat_sound w ws line f =
        bind (AtExpr ws) (AtPrim w) (expr_at n ws) (λ e. found_or (after t.BraceOpen e.1) (parts_at n (e.0 ∷ []) e.1
        >>= λ es. after t.BraceClose es.1 >>= λ c. Some (ConcatPrim line (exprs_of es.0), c.1)) (λ o. repeat_at n line e.0 o.1))
        (s.expr ws f.lawful)
        (λ e g. found (Behind t.BraceOpen e.1) (AtPrim w) (after t.BraceOpen e.1) (parts_at n (e.0 ∷ []) e.1
        >>= λ es. after t.BraceClose es.1 >>= λ c. Some (ConcatPrim line (exprs_of es.0), c.1)) (λ o. repeat_at n line e.0 o.1)
        (after_sound t.BraceOpen e.1 g.1.lawful)
        (bind (AtParts ws) (AtPrim w) (parts_at n (e.0 ∷ []) e.1)
        (λ es. after t.BraceClose es.1 >>= λ c. Some (ConcatPrim line (exprs_of es.0), c.1)) (s.parts ws e.1 (e.0 ∷ []) (first_part ws e g))
        (λ es ge. bind (Behind t.BraceClose es.1) (AtPrim w) (after t.BraceClose es.1) (λ c. Some (ConcatPrim line (exprs_of es.0), c.1))
        (after_sound t.BraceClose es.1 ge.1.lawful)
        (λ c fc. (
          ge.0,
          join w ws c.1 (FixedAt t.BraceOpen line ∷ []) (exprs_words (exprs_of es.0) ++ Fixed t.BraceClose ∷ []) f
              (join ws es.1 c.1 (exprs_words (exprs_of es.0)) (Fixed t.BraceClose ∷ []) ge.1 fc),
        ))))
        (λ o fo. s.repeat w o.1 line e.0 (
          g.0,
          join w ws o.1 (FixedAt t.BraceOpen line ∷ []) (expr_words e.0 ++ Fixed t.BraceOpen ∷ []) f
              (join ws e.1 o.1 (expr_words e.0) (Fixed t.BraceOpen ∷ []) g.1 fo),
        )))

    repeat_sound : (w ws : Toks A) (line : A) (count : ExprOf A) → CountAt line w count ws
        → Holds (repeat_at (suc n) line count ws) (AtPrim w)
    repeat_sound w ws line count f =
        bind (AtExpr ws) (AtPrim w) (expr_at n ws) (λ e. parts_at n (e.0 ∷ []) e.1 >>= λ es. after t.BraceClose es.1
        >>= λ i. after t.BraceClose i.1 >>= λ c. Some (RepeatPrim line count (exprs_of es.0), c.1)) (s.expr ws f.1.lawful)
        (λ e g. bind (AtParts ws) (AtPrim w) (parts_at n (e.0 ∷ []) e.1) (λ es. after t.BraceClose es.1
        >>= λ i. after t.BraceClose i.1 >>= λ c. Some (RepeatPrim line count (exprs_of es.0), c.1))
        (s.parts ws e.1 (e.0 ∷ []) (first_part ws e g))
        (λ es ge. bind (Behind t.BraceClose es.1) (AtPrim w) (after t.BraceClose es.1)
        (λ i. after t.BraceClose i.1 >>= λ c. Some (RepeatPrim line count (exprs_of es.0), c.1))
        (after_sound t.BraceClose es.1 ge.1.lawful)
        (λ i fi. bind (Behind t.BraceClose i.1) (AtPrim w) (after t.BraceClose i.1) (λ c. Some (RepeatPrim line count (exprs_of es.0), c.1))
        (after_sound t.BraceClose i.1 fi.lawful)
        (λ c fc. (
          (f.0, ge.0),
          again w c.1 (front ++ back (exprs_of es.0))
              (prim_words (RepeatPrim line count (exprs_of es.0)))
              (ap (λ (ws : List (WordOf A)). FixedAt t.BraceOpen line ∷ ws) (append_assoc (expr_words count) (Fixed t.BraceOpen ∷ [])
              (back (exprs_of es.0))))
              (join w ws c.1 front (back (exprs_of es.0)) f.1
              (join ws es.1 c.1 (exprs_words (exprs_of es.0)) (Fixed t.BraceClose ∷ Fixed t.BraceClose ∷ []) ge.1
              (join es.1 i.1 c.1 (Fixed t.BraceClose ∷ []) (Fixed t.BraceClose ∷ []) fi fc))),
        )))))
      where
        front : List (WordOf A)
        front = FixedAt t.BraceOpen line ∷ (expr_words count ++ Fixed t.BraceOpen ∷ [])

        back : ExprsOf A → List (WordOf A)
        back es = exprs_words es ++ Fixed t.BraceClose ∷ Fixed t.BraceClose ∷ []

    parts_sound : (w ws : Toks A) (xs : List (ExprOf A)) → AtParts w (xs, ws) → Holds (parts_at (suc n) xs ws) (AtParts w)
    parts_sound w ws xs g =
        found (Behind t.Comma ws) (AtParts w) (after t.Comma ws) (Some (xs, ws))
        (λ c. expr_at n c.1 >>= λ e. parts_at n (xs ++ e.0 ∷ []) e.1) (after_sound t.Comma ws g.1.lawful) g
        (λ c fc. bind (AtExpr c.1) (AtParts w) (expr_at n c.1) (λ e. parts_at n (xs ++ e.0 ∷ []) e.1) (s.expr c.1 fc.lawful)
        (λ e ge. s.parts w e.1 (xs ++ e.0 ∷ []) (parts_snoc w ws e.1 xs e.0 g ge.0
        (join ws c.1 e.1 (Fixed t.Comma ∷ []) (expr_words e.0) fc ge.1))))

    ref_sound : (ws : Toks A) → AreLawful ws → Holds (ref_at (suc n) ws) (AtRef ws)
    ref_sound ws h =
        bind (AtName ws) (AtRef ws) (name_front ws) (λ id. found_or (after t.BracketOpen id.1) (Some (RefWith id.0 NoIndex NoLast, id.1))
        (λ o. sel_at n o.1 >>= λ x. after t.BracketClose x.1 >>= λ c. second_at n id.0 x.0 c.1)) (name_sound ws h)
        (λ id g. found (Behind t.BracketOpen id.1) (AtRef ws) (after t.BracketOpen id.1) (Some (RefWith id.0 NoIndex NoLast, id.1))
        (λ o. sel_at n o.1 >>= λ x. after t.BracketClose x.1 >>= λ c. second_at n id.0 x.0 c.1)
        (after_sound t.BracketOpen id.1 g.1.lawful) ((g.0, tt, tt, tt), g.1)
        (λ o fo. bind (AtSel o.1) (AtRef ws) (sel_at n o.1) (λ x. after t.BracketClose x.1 >>= λ c. second_at n id.0 x.0 c.1)
        (s.sel o.1 fo.lawful)
        (λ x gx. bind (Behind t.BracketClose x.1) (AtRef ws) (after t.BracketClose x.1) (λ c. second_at n id.0 x.0 c.1)
        (after_sound t.BracketClose x.1 gx.1.lawful)
        (λ c fc. s.second ws c.1 id.0 x.0 (
          (g.0, tt, tt, gx.0),
          join ws id.1 c.1 (ident_words id.0) (Fixed t.BracketOpen ∷ (sel_words x.0 ++ Fixed t.BracketClose ∷ [])) g.1
              (join id.1 o.1 c.1 (Fixed t.BracketOpen ∷ []) (sel_words x.0 ++ Fixed t.BracketClose ∷ []) fo
              (join o.1 x.1 c.1 (sel_words x.0) (Fixed t.BracketClose ∷ []) gx.1 fc)),
        )))))

    second_more : (w ws : Toks A) (id : IdentOf A) (x : SelOf A) → AtRef w (RefWith id NoIndex (Last x), ws) → (o : A × Toks A)
        → Behind t.BracketOpen ws o
        → Holds (index_of x >>= λ i. sel_at n o.1 >>= λ y. after t.BracketClose y.1 >>= λ c. Some (RefWith id (Index i) (Last y.0), c.1))
        (AtRef w)
    second_more w ws id (PartSel a b) g o fo = tt
    second_more w ws id (IndexedSel a b) g o fo = tt
    second_more w ws id (IndexSel e) g o fo =
        bind (AtSel o.1) (AtRef w) (sel_at n o.1) (λ y. after t.BracketClose y.1 >>= λ c. Some (RefWith id (Index e) (Last y.0), c.1))
        (s.sel o.1 fo.lawful)
        (λ y gy. bind (Behind t.BracketClose y.1) (AtRef w) (after t.BracketClose y.1) (λ c. Some (RefWith id (Index e) (Last y.0), c.1))
        (after_sound t.BracketClose y.1 gy.1.lawful)
        (λ c fc. (
          (g.0.0, tt, g.0.3, gy.0),
          join w ws c.1 (NameAt id.name id.line ∷ Fixed t.BracketOpen ∷ (expr_words e ++ Fixed t.BracketClose ∷ []))
              (Fixed t.BracketOpen ∷ (sel_words y.0 ++ Fixed t.BracketClose ∷ [])) g.1
              (join ws o.1 c.1 (Fixed t.BracketOpen ∷ []) (sel_words y.0 ++ Fixed t.BracketClose ∷ []) fo
              (join o.1 y.1 c.1 (sel_words y.0) (Fixed t.BracketClose ∷ []) gy.1 fc)),
        )))

    second_sound : (w ws : Toks A) (id : IdentOf A) (x : SelOf A) → AtRef w (RefWith id NoIndex (Last x), ws)
        → Holds (second_at (suc n) id x ws) (AtRef w)
    second_sound w ws id x g =
        found (Behind t.BracketOpen ws) (AtRef w) (after t.BracketOpen ws) (Some (RefWith id NoIndex (Last x), ws))
        (λ o. index_of x >>= λ i. sel_at n o.1 >>= λ y. after t.BracketClose y.1 >>= λ c. Some (RefWith id (Index i) (Last y.0), c.1))
        (after_sound t.BracketOpen ws g.1.lawful) g (λ o fo. second_more w ws id x g o fo)

    sel_sound : (ws : Toks A) → AreLawful ws → Holds (sel_at (suc n) ws) (AtSel ws)
    sel_sound ws h = bind (AtExpr ws) (AtSel ws) (expr_at n ws) (λ a. bounds_at n a.0 a.1) (s.expr ws h) (λ a g. s.bounds ws a.1 a.0 g)

    bounds_sound : (w ws : Toks A) (e : ExprOf A) → AtExpr w (e, ws) → Holds (bounds_at (suc n) e ws) (AtSel w)
    bounds_sound w ws e g =
        found (Behind t.Colon ws) (AtSel w) (after t.Colon ws) (found_or (after t.PlusColon ws) (Some (IndexSel e, ws))
        (λ o. expr_at n o.1 >>= λ b. Some (IndexedSel e b.0, b.1))) (λ o. expr_at n o.1 >>= λ b. Some (PartSel e b.0, b.1))
        (after_sound t.Colon ws g.1.lawful)
        (found (Behind t.PlusColon ws) (AtSel w) (after t.PlusColon ws) (Some (IndexSel e, ws))
        (λ o. expr_at n o.1 >>= λ b. Some (IndexedSel e b.0, b.1))
        (after_sound t.PlusColon ws g.1.lawful) g
        (λ o fo. bind (AtExpr o.1) (AtSel w) (expr_at n o.1) (λ b. Some (IndexedSel e b.0, b.1)) (s.expr o.1 fo.lawful)
        (λ b gb. (
          (g.0, gb.0),
          join w ws b.1 (expr_words e) (Fixed t.PlusColon ∷ expr_words b.0) g.1
              (join ws o.1 b.1 (Fixed t.PlusColon ∷ []) (expr_words b.0) fo gb.1),
        ))))
        (λ o fo. bind (AtExpr o.1) (AtSel w) (expr_at n o.1) (λ b. Some (PartSel e b.0, b.1)) (s.expr o.1 fo.lawful)
        (λ b gb. (
          (g.0, gb.0),
          join w ws b.1 (expr_words e) (Fixed t.Colon ∷ expr_words b.0) g.1
              (join ws o.1 b.1 (Fixed t.Colon ∷ []) (expr_words b.0) fo gb.1),
        )))

  pub sound : (n : ℕ) → Sound n
  sound zero = record {
    expr = λ ws h. tt;
    choice = λ w ws c g. tt;
    binary = λ l ws h k. tt;
    chain = λ l w ws e h g. tt;
    unary = λ ws h. tt;
    prim = λ ws h. tt;
    paren = λ w ws line f. tt;
    concat = λ w ws line f. tt;
    repeat = λ w ws line count f. tt;
    parts = λ w ws xs g. tt;
    ref = λ ws h. tt;
    second = λ w ws id x g. tt;
    sel = λ ws h. tt;
    bounds = λ w ws e g. tt;
  }
  sound (suc n) = record {
    expr = expr_sound n (sound n);
    choice = choice_sound n (sound n);
    binary = binary_at_sound n (sound n);
    chain = chain_sound n (sound n);
    unary = unary_sound n (sound n);
    prim = prim_sound n (sound n);
    paren = paren_sound n (sound n);
    concat = concat_sound n (sound n);
    repeat = repeat_sound n (sound n);
    parts = parts_sound n (sound n);
    ref = ref_sound n (sound n);
    second = second_sound n (sound n);
    sel = sel_sound n (sound n);
    bounds = bounds_sound n (sound n);
  }

  pub keep : {X : Type 0} (words : X → List (WordOf A)) (Good : X → Type 0) (ws : Toks A) (o : Option (X × Toks A))
      → Holds o (λ x. Good x.0 × From ws (words x.0) x.1) → Holds o (λ x. Good x.0 × AreWords (words x.0) ws x.1)
  keep words Good ws None h = tt
  keep words Good ws (Some x) h = (h.0, h.1.spells)

  pub expr_spelled : (n : ℕ) (ws : Toks A) → AreLawful ws → Holds (expr_at n ws) (λ x. IsGoodExpr x.0 × AreWords (expr_words x.0) ws x.1)
  expr_spelled n ws h = keep (λ (e : ExprOf A). expr_words e) (λ (e : ExprOf A). IsGoodExpr e) ws (expr_at n ws) ((sound n).expr ws h)

  pub ref_spelled : (n : ℕ) (ws : Toks A) → AreLawful ws → Holds (ref_at n ws) (λ x. IsGoodRef x.0 × AreWords (ref_words x.0) ws x.1)
  ref_spelled n ws h = keep (λ (r : RefOf A). ref_words r) (λ (r : RefOf A). IsGoodRef r) ws (ref_at n ws) ((sound n).ref ws h)
