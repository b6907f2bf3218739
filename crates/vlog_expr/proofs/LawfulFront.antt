-- One lawful token more.
use Rattle.std.proofs.Common.{◌≡◌, ◌<◌, ◌+◌, ℕ, get_or, take, List, [], ◌∷◌, ◌++◌, length, sym, ap, subst, ◌∙◌}
use Rattle.std.proofs.lemmas.List.{map-append, take_more}
use Rattle.vlog_tree.specs.vlog_lex.declared.token.Token.{Token}
use Rattle.vlog_expr.specs.Marks.{TokenOf, Toks, marked, all_marked, IsLawfulText, AreLawful}

lawful_push : (ws : Toks ℕ) (x : TokenOf ℕ) → AreLawful ws → IsLawfulText x.kind x.text → AreLawful (ws ++ x ∷ [])
lawful_push [] x h g = (g, tt)
lawful_push (token ∷ ws) x h g = (h.0, lawful_push ws x h.1 g)

pub lawful_more : (ts : List Token) (i : ℕ) (t : Token) → i < length ts → t ≡ get_or ts i t → AreLawful (all_marked (take i ts))
    → IsLawfulText t.kind t.text → AreLawful (all_marked (take (i + 1) ts))
lawful_more ts i t l e h g =
    let front : take (i + 1) ts ≡ take i ts ++ t ∷ [] = take_more ts i t l ∙ ap (λ (x : Token). take i ts ++ x ∷ []) (sym e) in
    subst (λ (ws : Toks ℕ). AreLawful ws) (sym (ap all_marked front ∙ map-append marked (take i ts) (t ∷ [])))
    (lawful_push (all_marked (take i ts)) (marked t) h g)
