-- The printed text is read as the tree that was printed.
use Rattle.std.proofs.Common.{◌≡◌, ℕ, ◌<◌, ◌≤◌, inl, inr, List, [], ◌∷◌, ◌+◌, cond, map, count_by, refl, sym, ap, subst, ◌∙◌}
use Rattle.std.proofs.lemmas.List.{map-append, length-map}
use Rattle.std.proofs.lemmas.List.Elements.{All-map}
use Rattle.std.proofs.lemmas.List.Sums.{sum_by-cons}
use Rattle.vlog_parse.specs.vlog_lex.declared.token.Token.{Token}
use Rattle.vlog_tree.specs.Words.{WordOf, NameWord, Fixed, NameAt, NumberAt, FixedAt}
use Rattle.vlog_tree.specs.Tree.{FileOf}
use Rattle.vlog_tree.specs.Lines.{bare}
use Rattle.vlog_tree.specs.Spelling.{toks, file_words}
use Rattle.vlog_tree.specs.Shape.{IsGood}
use Rattle.vlog_tree.proofs.Marks.{toks_bare}
use Rattle.vlog_parse.specs.vlog_expr.Marks.{TokenOf, Toks, marked, all_marked, spelled, AreWords}
use Rattle.vlog_parse.specs.vlog_expr.Bare.{without_lines}
use Rattle.vlog_parse.specs.Depth.{open_at, open_behind, HaveNoCut, is_else, IsNoAlways, IsOpenTooDeep, EndsLongRun, IsElseTooMany, Passes}
use Rattle.vlog_parse.specs.Depth.{IsShallow}
use Rattle.vlog_parse.specs.Parsing.{IsFileOf}
use Rattle.vlog_parse.proofs.FileClauses.{lined_files}
use Rattle.vlog_print.specs.Printed.{PrintedIsRead}
use Rattle.vlog_print.proofs.Printed.{printed_spelled}

-- a token on line 0, as without_lines has it
abbrev unlined : TokenOf ℕ → TokenOf ℕ
unlined x = record { kind = x.kind; text = x.text; line = 0 }

abbrev all_unlined : Toks ℕ → Toks ℕ
all_unlined xs = map unlined xs

marked_unlined : (ts : List Token) → all_marked (without_lines ts) ≡ all_unlined (all_marked ts)
marked_unlined [] = refl
marked_unlined (t ∷ ts) = ap (λ (xs : Toks ℕ). unlined (marked t) ∷ xs) (marked_unlined ts)

-- no limit looks at lines
open_unlined : (n : ℕ) (xs : Toks ℕ) → open_behind n (all_unlined xs) ≡ open_behind n xs
open_unlined n [] = refl
open_unlined n (x ∷ xs) = open_unlined (open_at n x) xs

uncut : (n : ℕ) (xs : Toks ℕ) → HaveNoCut n xs → HaveNoCut n (all_unlined xs)
uncut n [] h = tt
uncut n (x ∷ xs) h = (h.0, uncut (open_at n x) xs h.1)

abbrev one_else : TokenOf ℕ → ℕ
one_else x = cond (is_else x) 1 0

elses_unlined : (xs : Toks ℕ) → count_by is_else (all_unlined xs) ≡ count_by is_else xs
elses_unlined [] = refl
elses_unlined (x ∷ xs) =
    sum_by-cons one_else (unlined x) (all_unlined xs) ∙ ap (λ (n : ℕ). one_else x + n) (elses_unlined xs) ∙ sym (sum_by-cons one_else x xs)

too_deep : (b : Toks ℕ) (x : TokenOf ℕ) → IsOpenTooDeep b x → IsOpenTooDeep (all_unlined b) (unlined x)
too_deep b x h = subst (λ (n : ℕ). 32 < open_at n x) (sym (open_unlined 0 b)) h

long_run : (b : Toks ℕ) → EndsLongRun b → EndsLongRun (all_unlined b)
long_run b h = (
  all_unlined h.0,
  all_unlined h.1,
  ap all_unlined h.2 ∙ map-append unlined h.0 h.1,
  length-map h.1 unlined ∙ h.3,
  subst (λ (n : ℕ). HaveNoCut n (all_unlined h.1)) (sym (open_unlined 0 h.0)) (uncut (open_behind 0 h.0) h.1 h.4),
)

many_elses : (b : Toks ℕ) (x : TokenOf ℕ) → IsElseTooMany b x → IsElseTooMany (all_unlined b) (unlined x)
many_elses b x h =
    let front = h.1.0 in
    let run = h.1.1 in (
      h.0,
      (
        all_unlined front,
        all_unlined run,
        ap all_unlined h.1.2 ∙ map-append unlined front run,
        All-map IsNoAlways unlined run h.1.3,
        subst (λ (n : ℕ). 1024 ≤ n) (sym (elses_unlined run)) h.1.4,
      ),
    )

passes : (b : Toks ℕ) (x : TokenOf ℕ) → Passes b x → Passes (all_unlined b) (unlined x)
passes b x (inl h) = inl (too_deep b x h)
passes b x (inr (inl h)) = inr (inl (long_run b h))
passes b x (inr (inr h)) = inr (inr (many_elses b x h))

shallow : (ts : List Token) → IsShallow (all_marked (without_lines ts)) → IsShallow (all_marked ts)
shallow ts h b x r e p =
    h (all_unlined b) (unlined x) (all_unlined r)
    (marked_unlined ts ∙ ap all_unlined e ∙ map-append unlined b (x ∷ r)) (passes b x p)

-- tokens that are these words, lines included
abbrev word_token : WordOf ℕ → Token
word_token w = record { kind = (spelled 0 w).kind; text = (spelled 0 w).text; line = (spelled 0 w).line }

are_words : (ws : List (WordOf ℕ)) → AreWords ws (all_marked (map word_token ws)) []
are_words [] = refl
are_words (NameWord text ∷ ws) = (refl, are_words ws)
are_words (Fixed t ∷ ws) = (refl, are_words ws)
are_words (NameAt text line ∷ ws) = (refl, are_words ws)
are_words (NumberAt kind text line ∷ ws) = (refl, are_words ws)
are_words (FixedAt t line ∷ ws) = (refl, are_words ws)

good_bare : (f : FileOf ℕ) → IsGood f → IsGood (bare f)
good_bare f g =
    let is : IsFileOf (map word_token (file_words f)) (bare f) = lined_files (map word_token (file_words f)) f (g, are_words (file_words f)) in
    is.0

pub printed_read : PrintedIsRead
printed_read f h low =
    let p = printed_spelled f h in
    let same : without_lines p.0 ≡ toks f = p.2 in
    (p.0, p.1, shallow p.0 (subst (λ (ts : List Token). IsShallow (all_marked ts)) (sym same) low), (good_bare f h, toks_bare f ∙ sym same))
