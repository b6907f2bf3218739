-- What is spelled is read: lists with commas.
use Rattle.std.proofs.Common.{◌≡◌, ℕ, zero, suc, ◌<◌, ◌≤◌, None, Some, List, [], ◌∷◌, ◌++◌, length, sym, refl, ap, ◌∙◌, arith}
use Rattle.std.proofs.Common.{append_assoc, append-nil, length-append}
use Rattle.std.specs.List.{AllByRecursion}
use Rattle.vlog_tree.specs.declared.terminal.Terminal.TheVariants as t
use Rattle.vlog_tree.specs.Words.{WordOf, Fixed}
use Rattle.vlog_tree.specs.Spelling.{expr_words, after_commas, with_commas}
use Rattle.vlog_tree.specs.Shape.{IsGoodExpr, AreSomeGood}
use Rattle.vlog_expr.specs.Marks.{Toks, spelled, spell, after}
use Rattle.vlog_expr.specs.Reader.{Read, expr_at, fuel_for, more_at, some_at}
use Rattle.vlog_expr.specs.Laws.{Ends}
use Rattle.vlog_expr.proofs.Spelled.{spell_append, ends_colon, ends_comma, ends_paren, expr_read}
use Rattle.vlog_stmt.proofs.Steps.{step, skipped}

module _ (A : Type 0) (blank : A) where
  -- what can stand behind an expression
  pub ends_semicolon : (r : Toks A) → Ends (spelled blank (Fixed t.Semicolon) ∷ r)
  ends_semicolon r = record { stops = record { index = refl; operator = λ m h. refl }; question = refl }

  abbrev pub semicolon : Toks A → Toks A
  semicolon r = spelled blank (Fixed t.Semicolon) ∷ r

  abbrev pub paren : Toks A → Toks A
  paren r = spelled blank (Fixed t.ParenClose) ∷ r

  -- lists with commas: what can stand behind an element
  pub record Parts (r : Toks A) : Type 0 where
    pub ends : Ends r
    pub equals : after t.Equals r ≡ None

  pub parts_comma : (r : Toks A) → Parts (spelled blank (Fixed t.Comma) ∷ r)
  parts_comma r = record { ends = ends_comma A blank r; equals = refl }

  pub parts_semicolon : (r : Toks A) → Parts (semicolon r)
  parts_semicolon r = record { ends = ends_semicolon r; equals = refl }

  pub parts_colon : (r : Toks A) → Parts (spelled blank (Fixed t.Colon) ∷ r)
  parts_colon r = record { ends = ends_colon A blank r; equals = refl }

  pub parts_paren : (r : Toks A) → Parts (paren r)
  parts_paren r = record { ends = ends_paren A blank r; equals = refl }

  pub parts_more : {X : Type 0} (words : X → List (WordOf A)) (xs : List X) (r : Toks A) → Parts r
      → Parts (spell blank (after_commas words xs) r)
  parts_more words [] r p = p
  parts_more words (x ∷ xs) r p = parts_comma (spell blank (words x ++ after_commas words xs) r)

  -- an element is read before what can stand behind it
  abbrev pub ReadsOne : {X : Type 0} → (X → List (WordOf A)) → (X → Type 0) → (Toks A → Read A X) → ℕ → Type 0
  ReadsOne {X} words IsFit one fuel =
      (x : X) (r : Toks A) → IsFit x → Parts r → fuel_for (length (words x)) ≤ fuel → one (spell blank (words x) r)
      ≡ Some (x, r)

  pub more_read : {X : Type 0} (words : X → List (WordOf A)) (IsFit : X → Type 0) (one : Toks A → Read A X) (fuel : ℕ)
      → ReadsOne words IsFit one fuel → (xs : List X) (n : ℕ) (front : List X) (r : Toks A) → AllByRecursion IsFit xs → Parts r
      → after t.Comma r ≡ None
      → fuel_for (length (after_commas words xs)) ≤ fuel → length (after_commas words xs) < n
      → more_at one n front (spell blank (after_commas words xs) r) ≡ Some (front ++ xs, r)
  more_read words IsFit one fuel c [] zero front r g p h b k = absurd (omega arith)
  more_read words IsFit one fuel c (x ∷ xs) zero front r g p h b k = absurd (omega arith)
  more_read {X = X} words IsFit one fuel c [] (suc n) front r g p h b k =
      skipped _ h (ap (λ (ys : List X). Some (ys, r)) (sym (append-nil front)))
  more_read {X = X} words IsFit one fuel c (x ∷ xs) (suc n) front r g p h b k =
      let long = length-append (words x) (after_commas words xs) in
      step _
      (ap one (spell_append A blank (words x) (after_commas words xs) r)
      ∙ c x (spell blank (after_commas words xs) r) g.0 (parts_more words xs r p) (omega arith))
      (more_read words IsFit one fuel c xs n (front ++ x ∷ []) r g.1 p h (omega arith) (omega arith)
      ∙ ap (λ (ys : List X). Some (ys, r)) (append_assoc front (x ∷ []) xs))

  pub some_read : {X : Type 0} (words : X → List (WordOf A)) (IsFit : X → Type 0) (one : Toks A → Read A X) (fuel : ℕ)
      → ReadsOne words IsFit one fuel → (x : X) (xs : List X) (r : Toks A) → AreSomeGood IsFit (x ∷ xs) → Parts r → after t.Comma r ≡ None
      → fuel_for (length (with_commas words (x ∷ xs))) ≤ fuel
      → some_at one fuel (spell blank (with_commas words (x ∷ xs)) r) ≡ Some (x ∷ xs, r)
  some_read words IsFit one fuel c x xs r g p h b =
      let long = length-append (words x) (after_commas words xs) in
      step _
      (ap one (spell_append A blank (words x) (after_commas words xs) r)
      ∙ c x (spell blank (after_commas words xs) r) g.0 (parts_more words xs r p) (omega arith))
      (more_read words IsFit one fuel c xs fuel (x ∷ []) r g.1 p h (omega arith) (omega arith))

  -- expressions in a list
  pub exprs_read : (n : ℕ) → ReadsOne expr_words IsGoodExpr (expr_at n) n
  exprs_read n x r g p h = expr_read A blank x r n g p.ends h
