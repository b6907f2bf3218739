-- What is read is of good shape and spelled so: targets.
use Rattle.std.proofs.Common.{◌≡◌, ℕ, zero, suc, Some, List, [], ◌∷◌, ◌++◌, sym, ap, ◌∙◌, append_assoc, append-nil}
use Rattle.vlog_tree.specs.declared.terminal.Terminal.TheVariants as t
use Rattle.vlog_tree.specs.Words.{WordOf, Fixed, FixedAt}
use Rattle.vlog_tree.specs.Tree.{TargetOf, RefTarget, ConcatTarget, targets_of}
use Rattle.vlog_tree.specs.Spelling.{target_words, targets_words, more_targets_words}
use Rattle.vlog_tree.specs.Shape.{IsGoodTarget, AreGoodTargets, AreAllGoodTargets}
use Rattle.vlog_expr.specs.Marks.{Toks, AreWords, AreLawful, after}
use Rattle.vlog_expr.specs.Reader.{◌>>=◌, ref_at, target_at, targets_at}
use Rattle.vlog_expr.specs.Laws.{Holds}
use Rattle.vlog_expr.proofs.Found.{bind, found, From, join, again, after_sound, after_at_sound, Behind, BehindAt, AtRef, sound, keep}

module _ (A : Type 0) where
  abbrev pub AtTarget : Toks A → TargetOf A × Toks A → Type 0
  AtTarget w x = IsGoodTarget x.0 × From A w (target_words x.0) x.1

  abbrev AtTargets : Toks A → List (TargetOf A) × Toks A → Type 0
  AtTargets w x = AreGoodTargets (targets_of x.0) × From A w (targets_words (targets_of x.0)) x.1

  more_snoc : (xs : List (TargetOf A)) (e : TargetOf A) → more_targets_words (targets_of (xs ++ e ∷ []))
      ≡ more_targets_words (targets_of xs) ++ Fixed t.Comma ∷ target_words e
  more_snoc [] e = ap (λ (ws : List (WordOf A)). Fixed t.Comma ∷ ws) (append-nil (target_words e))
  more_snoc (x ∷ xs) e =
      ap (λ (ws : List (WordOf A)). Fixed t.Comma ∷ (target_words x ++ ws)) (more_snoc xs e)
      ∙ ap (λ (ws : List (WordOf A)). Fixed t.Comma ∷ ws) (sym (append_assoc (target_words x) (more_targets_words (targets_of xs))
      (Fixed t.Comma ∷ target_words e)))

  good_more_snoc : (xs : List (TargetOf A)) (e : TargetOf A) → AreAllGoodTargets (targets_of xs) → IsGoodTarget e
      → AreAllGoodTargets (targets_of (xs ++ e ∷ []))
  good_more_snoc [] e g h = (h, tt)
  good_more_snoc (x ∷ xs) e g h = (g.0, good_more_snoc xs e g.1 h)

  targets_snoc : (w mid rest : Toks A) (xs : List (TargetOf A)) (e : TargetOf A) → AtTargets w (xs, mid) → IsGoodTarget e
      → From A mid (Fixed t.Comma ∷ target_words e) rest → AtTargets w (xs ++ e ∷ [], rest)
  targets_snoc w mid rest [] e g h f = absurd g.0
  targets_snoc w mid rest (x ∷ xs) e g h f = (
    (g.0.0, good_more_snoc xs e g.0.1 h),
    again A w rest ((target_words x ++ more_targets_words (targets_of xs)) ++ Fixed t.Comma ∷ target_words e)
        (target_words x ++ more_targets_words (targets_of (xs ++ e ∷ [])))
        (append_assoc (target_words x) (more_targets_words (targets_of xs)) (Fixed t.Comma ∷ target_words e)
        ∙ ap (λ (ws : List (WordOf A)). target_words x ++ ws) (sym (more_snoc xs e)))
        (join A w mid rest (target_words x ++ more_targets_words (targets_of xs)) (Fixed t.Comma ∷ target_words e) g.1 f),
  )

  mutual
    pub target_sound : (n : ℕ) (ws : Toks A) → AreLawful ws → Holds (target_at n ws) (AtTarget ws)
    target_sound zero ws h = tt
    target_sound (suc n) ws h =
        found (BehindAt A t.BraceOpen ws) (AtTarget ws) (after t.BraceOpen ws) (ref_at n ws >>= λ r. Some (RefTarget r.0, r.1))
        (λ o. target_at n o.1 >>= λ x. targets_at n (x.0 ∷ []) x.1 >>= λ xs. after t.BraceClose xs.1
        >>= λ c. Some (ConcatTarget o.0 (targets_of xs.0), c.1))
        (after_at_sound A t.BraceOpen ws h)
        (bind (AtRef A ws) (AtTarget ws) (ref_at n ws) (λ r. Some (RefTarget r.0, r.1)) ((sound A n).ref ws h) (λ r g. (g.0, g.1)))
        (λ o f. bind (AtTarget o.1) (AtTarget ws) (target_at n o.1) (λ x. targets_at n (x.0 ∷ []) x.1 >>= λ xs. after t.BraceClose xs.1
        >>= λ c. Some (ConcatTarget o.0 (targets_of xs.0), c.1)) (target_sound n o.1 f.lawful)
        (λ x g. bind (AtTargets o.1) (AtTarget ws) (targets_at n (x.0 ∷ []) x.1)
        (λ xs. after t.BraceClose xs.1 >>= λ c. Some (ConcatTarget o.0 (targets_of xs.0), c.1))
        (targets_sound n o.1 x.1 (x.0 ∷ []) (
          (g.0, tt),
          again A o.1 x.1 (target_words x.0) (target_words x.0 ++ [])
              (sym (append-nil (target_words x.0))) g.1,
        ))
        (λ xs gx. bind (Behind A t.BraceClose xs.1) (AtTarget ws) (after t.BraceClose xs.1)
        (λ c. Some (ConcatTarget o.0 (targets_of xs.0), c.1)) (after_sound A t.BraceClose xs.1 gx.1.lawful)
        (λ c fc. (
          gx.0,
          join A ws o.1 c.1 (FixedAt t.BraceOpen o.0 ∷ []) (targets_words (targets_of xs.0) ++ Fixed t.BraceClose ∷ []) f
              (join A o.1 xs.1 c.1 (targets_words (targets_of xs.0)) (Fixed t.BraceClose ∷ []) gx.1 fc),
        )))))

    targets_sound : (n : ℕ) (w ws : Toks A) (xs : List (TargetOf A)) → AtTargets w (xs, ws) → Holds (targets_at n xs ws) (AtTargets w)
    targets_sound zero w ws xs g = tt
    targets_sound (suc n) w ws xs g =
        found (Behind A t.Comma ws) (AtTargets w) (after t.Comma ws) (Some (xs, ws))
        (λ c. target_at n c.1 >>= λ x. targets_at n (xs ++ x.0 ∷ []) x.1) (after_sound A t.Comma ws g.1.lawful) g
        (λ c fc. bind (AtTarget c.1) (AtTargets w) (target_at n c.1) (λ x. targets_at n (xs ++ x.0 ∷ []) x.1) (target_sound n c.1 fc.lawful)
        (λ x gx. targets_sound n w x.1 (xs ++ x.0 ∷ []) (targets_snoc w ws x.1 xs x.0 g gx.0
        (join A ws c.1 x.1 (Fixed t.Comma ∷ []) (target_words x.0) fc gx.1))))

  pub target_spelled : (n : ℕ) (ws : Toks A) → AreLawful ws → Holds (target_at n ws)
      (λ x. IsGoodTarget x.0 × AreWords (target_words x.0) ws x.1)
  target_spelled n ws h = keep A (λ (x : TargetOf A). target_words x) (λ (x : TargetOf A). IsGoodTarget x) ws (target_at n ws)
      (target_sound n ws h)
