-- What is spelled is read: targets of good shape.
use Rattle.std.proofs.Common.{◌≡◌, ℕ, zero, suc, ◌+◌, ◌≤◌, Option, None, Some, List, [], ◌∷◌, ◌++◌, length, sym, refl, ap, ◌∙◌, arith}
use Rattle.std.proofs.Common.{append_assoc, append-nil, length-append}
use Rattle.vlog_tree.specs.declared.terminal.Terminal.TheVariants as t
use Rattle.vlog_tree.specs.Words.{Fixed}
use Rattle.vlog_tree.specs.Tree.{RefOf, RefWith, TargetOf, RefTarget, ConcatTarget, TargetsOf, NoTargets, MoreTargets, targets_of}
use Rattle.vlog_tree.specs.Spelling.{target_words, more_targets_words}
use Rattle.vlog_tree.specs.Shape.{IsGoodTarget, AreAllGoodTargets}
use Rattle.vlog_expr.specs.Marks.{Toks, spelled, spell, after}
use Rattle.vlog_expr.specs.Reader.{◌>>=◌, found_or, Read, target_at, targets_at, fuel_for}
use Rattle.vlog_expr.proofs.Spelled.{size, spell_append, RefClaim, reads_ref}

module _ (A : Type 0) (blank : A) where
  abbrev TargetClaim : TargetOf A → Type 0
  TargetClaim x = (n : ℕ) (r : Toks A) → after t.BracketOpen r ≡ None → size A blank (target_words x) ≤ n + 16
      → target_at n (spell blank (target_words x) r) ≡ Some (x, r)

  abbrev list_of : TargetsOf A → List (TargetOf A)
  list_of NoTargets = []
  list_of (MoreTargets x xs) = x ∷ list_of xs

  listed : (xs : TargetsOf A) → targets_of (list_of xs) ≡ xs
  listed NoTargets = refl
  listed (MoreTargets x xs) = ap (MoreTargets x) (listed xs)

  abbrev TargetsClaim : TargetsOf A → Type 0
  TargetsClaim xs =
      (n : ℕ) (front : List (TargetOf A)) (r : Toks A) → after t.BracketOpen r ≡ None → after t.Comma r ≡ None
      → size A blank (more_targets_words xs)
      + 1 ≤ n
      → targets_at n front (spell blank (more_targets_words xs) r) ≡ Some (front ++ list_of xs, r)

  no_bracket : (xs : TargetsOf A) (r : Toks A) → after t.BracketOpen r ≡ None → after t.BracketOpen (spell blank
      (more_targets_words xs) r) ≡ None
  no_bracket NoTargets r h = h
  no_bracket (MoreTargets x xs) r h = refl

  target_ref : (x : RefOf A) → RefClaim A blank x → TargetClaim (RefTarget x)
  target_ref (RefWith id index last) g zero r i b = absurd (omega arith)
  target_ref (RefWith id index last) g (suc n) r i b = ap (λ (o : Read A (RefOf A)). o >>= λ r. Some (RefTarget r.0, r.1))
      (g n r i (omega arith))

  targets_none : TargetsClaim NoTargets
  targets_none zero front r i h b = absurd (omega arith)
  targets_none (suc n) front r i h b =
      ap (λ (o : Option (A × Toks A)). found_or o (Some (front, r)) (λ c. target_at n c.1 >>= λ x. targets_at n (front ++ x.0 ∷ []) x.1)) h
      ∙ ap (λ (xs : List (TargetOf A)). Some (xs, r)) (sym (append-nil front))

  targets_more : (x : TargetOf A) (xs : TargetsOf A) → TargetClaim x → TargetsClaim xs → TargetsClaim (MoreTargets x xs)
  targets_more x xs w m zero front r i h b = absurd (omega arith)
  targets_more x xs w m (suc n) front r i h b =
      let long = length-append (target_words x) (more_targets_words xs) in
      ap (λ (ws : Toks A). target_at n ws >>= λ x. targets_at n (front ++ x.0 ∷ []) x.1)
      (spell_append A blank (target_words x) (more_targets_words xs) r)
      ∙ ap (λ (o : Read A (TargetOf A)). o >>= λ x. targets_at n (front ++ x.0 ∷ []) x.1)
      (w n (spell blank (more_targets_words xs) r) (no_bracket xs r i) (omega arith))
      ∙ m n (front ++ x ∷ []) r i h (omega arith)
      ∙ ap (λ (xs : List (TargetOf A)). Some (xs, r)) (append_assoc front (x ∷ []) (list_of xs))

  target_concat : (line : A) (x : TargetOf A) (xs : TargetsOf A) → TargetClaim x → TargetsClaim xs
      → TargetClaim (ConcatTarget line (MoreTargets x xs))
  target_concat line x xs w m zero r i b = absurd (omega (
    arith,
    length-append (target_words x ++ more_targets_words xs)
        (Fixed t.BraceClose ∷ []),
  ))
  target_concat line x xs w m (suc n) r i b =
      let long = length-append (target_words x ++ more_targets_words xs) (Fixed t.BraceClose ∷ []) in
      let longer = length-append (target_words x) (more_targets_words xs) in
      let shut = spelled blank (Fixed t.BraceClose) ∷ r in
      ap (λ (ws : Toks A). target_at n ws >>= λ x. targets_at n (x.0 ∷ []) x.1 >>= λ xs. after t.BraceClose xs.1
      >>= λ c. Some (ConcatTarget line (targets_of xs.0), c.1))
      (spell_append A blank (target_words x ++ more_targets_words xs) (Fixed t.BraceClose ∷ []) r
      ∙ spell_append A blank (target_words x) (more_targets_words xs) shut)
      ∙ ap (λ (o : Read A (TargetOf A)). o >>= λ x. targets_at n (x.0 ∷ []) x.1 >>= λ xs. after t.BraceClose xs.1
      >>= λ c. Some (ConcatTarget line (targets_of xs.0), c.1)) (w n (spell blank (more_targets_words xs) shut) (no_bracket xs shut refl)
      (omega arith))
      ∙ ap (λ (o : Read A (List (TargetOf A))). o >>= λ xs. after t.BraceClose xs.1 >>= λ c. Some (
        ConcatTarget line
            (targets_of xs.0),
        c.1,
      ))
      (m n (x ∷ []) shut refl refl (omega arith))
      ∙ ap (λ (xs : TargetsOf A). Some (ConcatTarget line (MoreTargets x xs), r)) (listed xs)

  mutual
    reads_target : (x : TargetOf A) → IsGoodTarget x → TargetClaim x
    reads_target (RefTarget x) g = target_ref x (reads_ref A blank x g)
    reads_target (ConcatTarget line NoTargets) g = absurd g
    reads_target (ConcatTarget line (MoreTargets x xs)) g = target_concat line x xs (reads_target x g.0) (reads_targets xs g.1)

    reads_targets : (xs : TargetsOf A) → AreAllGoodTargets xs → TargetsClaim xs
    reads_targets NoTargets g = targets_none
    reads_targets (MoreTargets x xs) g = targets_more x xs (reads_target x g.0) (reads_targets xs g.1)

  pub target_read : (x : TargetOf A) (rest : Toks A) (fuel : ℕ) → IsGoodTarget x → after t.BracketOpen rest ≡ None
      → fuel_for (length (target_words x)) ≤ fuel → target_at fuel (spell blank (target_words x) rest) ≡ Some (x, rest)
  target_read x rest fuel g s h = reads_target x g fuel rest s (omega arith)
