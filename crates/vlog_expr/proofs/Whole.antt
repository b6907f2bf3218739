-- The whole list of tokens as one expression.
use Rattle.std.proofs.Common.{◌≡◌, ℕ, suc, List, [], ◌∷◌, ◌++◌, Option, None, Some, Result, Ok, Err, IfOk, MatchResult, map, length, refl}
use Rattle.std.proofs.Common.{ap, sym, ◌∙◌, subst, arith}
use Rattle.vlog_tree.specs.vlog_lex.declared.token.Token.{Token}
use Rattle.vlog_tree.specs.vlog_lex.declared.token.TokenKind.TheVariants.{Identifier}
use Rattle.vlog_tree.specs.vlog_lex.Lexeme.{IsToken}
use Rattle.vlog_tree.specs.declared.expr.Expr.{Expr}
use Rattle.vlog_tree.specs.declared.expr.NumberKind.{NumberKind}
use Rattle.vlog_tree.specs.declared.expr.NumberKind.TheVariants as number
use Rattle.vlog_tree.specs.declared.terminal.Terminal.{Terminal}
use Rattle.vlog_tree.specs.declared.terminal.Terminal.TheVariants as t
use Rattle.vlog_tree.specs.Words.{WordOf, NameWord, Fixed, NameAt, NumberAt, FixedAt, number_kind, terminal_kind, terminal_text}
use Rattle.vlog_tree.specs.Words.{token_of, tokens_of}
use Rattle.vlog_tree.specs.Tree.{ExprOf, UnaryExpr, BinaryExpr, ChoiceExpr, PrimOf, NumberPrim, RefPrim, ParenPrim, ConcatPrim}
use Rattle.vlog_tree.specs.Tree.{RepeatPrim, RefOf, RefWith, IndexOf, NoIndex, Index, LastOf, NoLast, Last, SelOf, IndexSel, PartSel}
use Rattle.vlog_tree.specs.Tree.{IndexedSel, ExprsOf, NoExprs, MoreExprs}
use Rattle.vlog_tree.specs.Plain.{plain_expr}
use Rattle.vlog_tree.specs.Spelling.{binary_terminal, expr_words, prim_words, ref_words, index_words, last_words, sel_words, exprs_words}
use Rattle.vlog_tree.specs.Spelling.{more_exprs_words}
use Rattle.vlog_tree.specs.Shape.{IsGoodExpr, IsGoodPrim, IsGoodRef, IsGoodIndex, IsGoodLast, IsGoodSel, AreGoodExprs, AreAllGoodExprs}
use Rattle.vlog_expr.specs.declared.unread.Unread.{Unread}
use Rattle.vlog_expr.specs.declared.unread.Unread.TheVariants as errors
use Rattle.vlog_expr.specs.Marks.{TokenOf, Toks, spelled, spell, AreWords, marked, all_marked, IsLawfulText, AreLawful}
use Rattle.vlog_expr.specs.Bare.{forget, forget_all, bare_expr, without_lines}
use Rattle.vlog_expr.specs.Reader.{◌>>=◌, Read, expr_at, whole, fuel_for, expr_of}
use Rattle.vlog_expr.specs.Laws.{Holds, seen}
use Rattle.vlog_expr.specs.Given.{Gives}
use Rattle.vlog_expr.proofs.Spelled.{U, ends_nil, expr_read}
use Rattle.vlog_expr.proofs.Found.{bind, expr_spelled}
use Rattle.vlog_expr.proofs.Natural.{expr_natural}

-- tokens with line 0, and tokens without line
abbrev zeroed : TokenOf ℕ → Token
zeroed t = record { kind = t.kind; text = t.text; line = 0 }

abbrev markless : Token → TokenOf U
markless t = record { kind = t.kind; text = t.text; line = tt }

zero_word : (line : ℕ) (w : WordOf ℕ) → zeroed (spelled line w) ≡ token_of w
zero_word line (NameWord text) = refl
zero_word line (Fixed x) = refl
zero_word line (NameAt text l) = refl
zero_word line (NumberAt kind text l) = refl
zero_word line (FixedAt x l) = refl

no_cons : {A : Type 0} (token : TokenOf A) (ws : Toks A) → token ∷ ws ≡ [] → ⊥
no_cons token ws h = cc

-- tokens that are these words are spelled so, where lines don't count
pub words_tokens : (ws : List (WordOf ℕ)) (ts : List Token) → AreWords ws (all_marked ts) [] → tokens_of ws ≡ without_lines ts
words_tokens [] [] h = refl
words_tokens [] (t ∷ ts) h = absurd (no_cons (marked t) (all_marked ts) h)
words_tokens (w ∷ ws) [] h = absurd h
words_tokens (w ∷ ws) (t ∷ ts) h =
    let first : token_of w ≡ zeroed (marked t) = sym (zero_word t.line w) ∙ sym (ap zeroed h.0) in
    λ i. first i ∷ words_tokens ws ts h.1 i

markless_word : (w : WordOf U) → markless (token_of w) ≡ spelled tt w
markless_word (NameWord text) = refl
markless_word (Fixed x) = refl
markless_word (NameAt text line) = refl
markless_word (NumberAt kind text line) = refl
markless_word (FixedAt x line) = refl

markless_spell : (ws : List (WordOf U)) → map markless (tokens_of ws) ≡ spell tt ws []
markless_spell [] = refl
markless_spell (w ∷ ws) = λ i. markless_word w i ∷ markless_spell ws i

markless_without : (ts : List Token) → map markless (without_lines ts) ≡ forget_all (all_marked ts)
markless_without [] = refl
markless_without (t ∷ ts) = ap (λ (us : Toks U). record { kind = t.kind; text = t.text; line = tt } ∷ us) (markless_without ts)

pub tokens_spelled : (ws : List (WordOf U)) (ts : List Token) → tokens_of ws ≡ without_lines ts
    → spell tt ws [] ≡ forget_all (all_marked ts)
tokens_spelled ws ts h = sym (markless_spell ws) ∙ ap (λ (us : List Token). map markless us) h ∙ markless_without ts

-- the words of a tree of good shape are lawful
abbrev pub IsLawfulWord : {A : Type 0} → WordOf A → Type 0
IsLawfulWord (NameWord text) = IsToken Identifier text
IsLawfulWord (Fixed x) = Unit {0}
IsLawfulWord (NameAt text line) = IsToken Identifier text
IsLawfulWord (NumberAt kind text line) = IsToken (number_kind kind) text
IsLawfulWord (FixedAt x line) = Unit {0}

abbrev pub AreLawfulWords : {A : Type 0} → List (WordOf A) → Type 0
AreLawfulWords [] = Unit {0}
AreLawfulWords (w ∷ ws) = IsLawfulWord w × AreLawfulWords ws

pub lawful_append : {A : Type 0} (a b : List (WordOf A)) → AreLawfulWords a → AreLawfulWords b → AreLawfulWords (a ++ b)
lawful_append [] b g h = h
lawful_append (w ∷ a) b g h = (g.0, lawful_append a b g.1 h)

fixed_lawful : (x : Terminal) (text : List ℕ) → IsLawfulText (terminal_kind x) text
fixed_lawful t.Always text = tt
fixed_lawful _ text = tt

number_lawful : (k : NumberKind) (text : List ℕ) → IsToken (number_kind k) text → IsLawfulText (number_kind k) text
number_lawful number.Decimal text h = h
number_lawful number.Based text h = h

word_lawful : {A : Type 0} (line : A) (w : WordOf A) → IsLawfulWord w → IsLawfulText (spelled line w).kind (spelled line w).text
word_lawful line (NameWord text) h = h
word_lawful line (Fixed x) h = fixed_lawful x (terminal_text x)
word_lawful line (NameAt text l) h = h
word_lawful line (NumberAt kind text l) h = number_lawful kind text h
word_lawful line (FixedAt x l) h = fixed_lawful x (terminal_text x)

pub spell_lawful : {A : Type 0} (line : A) (ws : List (WordOf A)) → AreLawfulWords ws → AreLawful (spell line ws [])
spell_lawful line [] h = tt
spell_lawful line (w ∷ ws) h = (word_lawful line w h.0, spell_lawful line ws h.1)

pub forget_lawful : (ws : Toks ℕ) → AreLawful (forget_all ws) → AreLawful ws
forget_lawful [] h = tt
forget_lawful (token ∷ ws) h = (h.0, forget_lawful ws h.1)

mutual
  pub expr_lawful : {A : Type 0} (e : ExprOf A) → IsGoodExpr e → AreLawfulWords (expr_words e)
  expr_lawful (UnaryExpr None p) g = prim_lawful p g
  expr_lawful (UnaryExpr (Some s) p) g = (tt, prim_lawful p g)
  expr_lawful (BinaryExpr a op b) g = lawful_append (expr_words a) (Fixed (binary_terminal op) ∷ expr_words b) (expr_lawful a g.2)
      (tt, expr_lawful b g.3)
  expr_lawful (ChoiceExpr c a b) g =
      lawful_append (expr_words c) (Fixed t.Question ∷ (expr_words a ++ Fixed t.Colon ∷ expr_words b)) (expr_lawful c g.1)
      (tt, lawful_append (expr_words a) (Fixed t.Colon ∷ expr_words b) (expr_lawful a g.2) (tt, expr_lawful b g.3))

  prim_lawful : {A : Type 0} (p : PrimOf A) → IsGoodPrim p → AreLawfulWords (prim_words p)
  prim_lawful (NumberPrim x) g = (g, tt)
  prim_lawful (RefPrim x) g = ref_lawful x g
  prim_lawful (ParenPrim line e) g = (tt, lawful_append (expr_words e) (Fixed t.ParenClose ∷ []) (expr_lawful e g) (tt, tt))
  prim_lawful (ConcatPrim line es) g = (tt, lawful_append (exprs_words es) (Fixed t.BraceClose ∷ []) (exprs_lawful es g) (tt, tt))
  prim_lawful (RepeatPrim line count es) g =
      let closing = Fixed t.BraceClose ∷ Fixed t.BraceClose ∷ [] in (
        tt,
        lawful_append (expr_words count) (Fixed t.BraceOpen ∷ (exprs_words es ++ closing)) (expr_lawful count g.0)
            (tt, lawful_append (exprs_words es) closing (exprs_lawful es g.1) (tt, (tt, tt))),
      )

  exprs_lawful : {A : Type 0} (es : ExprsOf A) → AreGoodExprs es → AreLawfulWords (exprs_words es)
  exprs_lawful NoExprs g = tt
  exprs_lawful (MoreExprs e es) g = lawful_append (expr_words e) (more_exprs_words es) (expr_lawful e g.0) (more_lawful es g.1)

  more_lawful : {A : Type 0} (es : ExprsOf A) → AreAllGoodExprs es → AreLawfulWords (more_exprs_words es)
  more_lawful NoExprs g = tt
  more_lawful (MoreExprs e es) g = (tt, lawful_append (expr_words e) (more_exprs_words es) (expr_lawful e g.0) (more_lawful es g.1))

  pub ref_lawful : {A : Type 0} (x : RefOf A) → IsGoodRef x → AreLawfulWords (ref_words x)
  ref_lawful (RefWith id index last) g = (
    g.0,
    lawful_append (index_words index) (last_words last) (index_lawful index g.2)
        (last_lawful last g.3),
  )

  index_lawful : {A : Type 0} (i : IndexOf A) → IsGoodIndex i → AreLawfulWords (index_words i)
  index_lawful NoIndex g = tt
  index_lawful (Index e) g = (tt, lawful_append (expr_words e) (Fixed t.BracketClose ∷ []) (expr_lawful e g) (tt, tt))

  last_lawful : {A : Type 0} (l : LastOf A) → IsGoodLast l → AreLawfulWords (last_words l)
  last_lawful NoLast g = tt
  last_lawful (Last s) g = (tt, lawful_append (sel_words s) (Fixed t.BracketClose ∷ []) (sel_lawful s g) (tt, tt))

  sel_lawful : {A : Type 0} (s : SelOf A) → IsGoodSel s → AreLawfulWords (sel_words s)
  sel_lawful (IndexSel e) g = expr_lawful e g
  sel_lawful (PartSel a b) g = lawful_append (expr_words a) (Fixed t.Colon ∷ expr_words b) (expr_lawful a g.0) (tt, expr_lawful b g.1)
  sel_lawful (IndexedSel a b) g = lawful_append (expr_words a) (Fixed t.PlusColon ∷ expr_words b) (expr_lawful a g.0)
      (tt, expr_lawful b g.1)

-- tokens that spell a tree of good shape are lawful
pub lawful_from : (e : ExprOf U) (ts : List Token) → IsGoodExpr e → tokens_of (expr_words e) ≡ without_lines ts → AreLawful (all_marked ts)
lawful_from e ts g h =
    forget_lawful (all_marked ts) (subst (λ (ws : Toks U). AreLawful ws) (tokens_spelled (expr_words e) ts h)
    (spell_lawful tt (expr_words e) (expr_lawful e g)))

whole_sound : (ws : Toks ℕ) (e : ExprOf ℕ) (rest : Toks ℕ) → IsGoodExpr e × AreWords (expr_words e) ws rest
    → Holds (whole (e, rest)) (λ (e : ExprOf ℕ). IsGoodExpr e × AreWords (expr_words e) ws [])
whole_sound ws e [] g = g
whole_sound ws e (token ∷ rest) g = tt

all_sound : (ws : Toks ℕ) → AreLawful ws → Holds (expr_of ws) (λ (e : ExprOf ℕ). IsGoodExpr e × AreWords (expr_words e) ws [])
unfolding expr_of
all_sound ws h =
    bind (λ (x : ExprOf ℕ × Toks ℕ). IsGoodExpr x.0 × AreWords (expr_words x.0) ws x.1)
    (λ (e : ExprOf ℕ). IsGoodExpr e × AreWords (expr_words e) ws [])
    (expr_at (fuel_for (length ws)) ws) whole (expr_spelled ℕ (fuel_for (length ws)) ws h) (λ x g. whole_sound ws x.0 x.1 g)

pub length_spell : {A : Type 0} (line : A) (ws : List (WordOf A)) → length (spell line ws []) ≡ length ws
length_spell line [] = refl
length_spell line (w ∷ ws) = ap suc (length_spell line ws)

pub length_forget : (ws : Toks ℕ) → length (forget_all ws) ≡ length ws
length_forget [] = refl
length_forget (token ∷ ws) = ap suc (length_forget ws)

abbrev tree_of : Read U (ExprOf U) → ExprOf U → ExprOf U
tree_of None e = e
tree_of (Some x) e = x.0

abbrev rest_of : Read U (ExprOf U) → Toks U
rest_of None = []
rest_of (Some x) = x.1

pub none_some : {X : Type 0} (x : X) → None ≡ Some x → ⊥
none_some x h = cc

from_seen : (o : Read ℕ (ExprOf ℕ)) (e : ExprOf U) → seen bare_expr o ≡ Some (e, []) → (x : ExprOf ℕ) × ((o >>= whole) ≡ Some x)
    × (bare_expr x ≡ e)
from_seen None e h = absurd (none_some (e, []) h)
from_seen (Some (x, [])) e h = (x, refl, ap (λ (o : Read U (ExprOf U)). tree_of o e) h)
from_seen (Some (x, (token ∷ rest))) e h = absurd (no_cons (forget token) (forget_all rest) (ap rest_of h))

pub all_again : (ws : Toks ℕ) (e : ExprOf U) → IsGoodExpr e → spell tt (expr_words e) [] ≡ forget_all ws → (x : ExprOf ℕ)
    × (expr_of ws ≡ Some x) × (bare_expr x ≡ e)
unfolding expr_of
all_again ws e g h =
    let fuel = fuel_for (length ws) in
    let same : length (expr_words e) ≡ length ws = sym (length_spell tt (expr_words e)) ∙ ap (λ (us : Toks U). length us) h
    ∙ length_forget ws
    in
    from_seen (expr_at fuel ws) e (sym (expr_natural ℕ fuel ws) ∙ sym (ap (λ (us : Toks U). expr_at fuel us) h)
    ∙ expr_read U tt e [] fuel g (ends_nil U tt) (omega arith))

-- the clauses
pub found_clause : (r : Result Expr Unread) (ts : List Token) → AreLawful (all_marked ts) → Gives plain_expr r (expr_of (all_marked ts))
    → IfOk r (λ e. IsGoodExpr (plain_expr e) × AreWords (expr_words (plain_expr e)) (all_marked ts) [])
found_clause (Err e) ts l h = tt
found_clause (Ok e) ts l h =
    subst (λ (o : Option (ExprOf ℕ)). Holds o (λ (e : ExprOf ℕ). IsGoodExpr e × AreWords (expr_words e) (all_marked ts) []))
    h (all_sound (all_marked ts) l)

same_some : (x y : ExprOf ℕ) → Some x ≡ Some y → x ≡ y
same_some x y h = cc

pub only_clause : (r : Result Expr Unread) (ts : List Token) → Gives plain_expr r (expr_of (all_marked ts))
    → (e : ExprOf U) → IsGoodExpr e → tokens_of (expr_words e) ≡ without_lines ts
    → MatchResult r (λ x. bare_expr (plain_expr x) ≡ e) (λ x. x ≡ errors.Memory)
only_clause (Ok x) ts h e g w =
    let a = all_again (all_marked ts) e g (tokens_spelled (expr_words e) ts w) in
    ap bare_expr (same_some (plain_expr x) a.0 (sym h ∙ a.1)) ∙ a.2
only_clause (Err errors.Memory) ts h e g w = refl
only_clause (Err errors.Fault) ts h e g w =
    let a = all_again (all_marked ts) e g (tokens_spelled (expr_words e) ts w) in
    absurd (none_some a.0 (sym h ∙ a.1))
