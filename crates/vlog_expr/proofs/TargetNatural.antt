-- Without lines the reader reads the same targets, without their lines.
use Rattle.std.proofs.Common.{◌≡◌, ℕ, zero, suc, Some, List, [], ◌∷◌, ◌++◌, map, refl, ap, ◌∙◌}
use Rattle.vlog_tree.specs.declared.terminal.Terminal.TheVariants as t
use Rattle.vlog_tree.specs.Tree.{TargetOf, RefTarget, ConcatTarget, TargetsOf, MoreTargets, targets_of}
use Rattle.vlog_expr.specs.Marks.{Toks, after}
use Rattle.vlog_expr.specs.Bare.{forget_all, bare_ref, bare_target, bare_targets}
use Rattle.vlog_expr.specs.Reader.{◌>>=◌, ref_at, target_at, targets_at}
use Rattle.vlog_expr.specs.Laws.{seen}
use Rattle.vlog_expr.proofs.Natural.{U, over_bind, over_found, after_natural, ref_natural}

module _ (A : Type 0) where
  map_snoc : (xs : List (TargetOf A)) (e : TargetOf A) → map bare_target xs ++ bare_target e ∷ [] ≡ map bare_target (xs ++ e ∷ [])
  map_snoc [] e = refl
  map_snoc (x ∷ xs) e = ap (λ (es : List (TargetOf U)). bare_target x ∷ es) (map_snoc xs e)

  bare_listed : (es : List (TargetOf A)) → targets_of (map bare_target es) ≡ bare_targets (targets_of es)
  bare_listed [] = refl
  bare_listed (e ∷ es) = ap (λ (xs : TargetsOf U). MoreTargets (bare_target e) xs) (bare_listed es)

  mutual
    pub target_natural : (n : ℕ) (ws : Toks A) → target_at n (forget_all ws) ≡ seen bare_target (target_at n ws)
    target_natural zero ws = refl
    target_natural (suc n) ws =
        over_found A (λ (a : A). tt) bare_target (after t.BraceOpen ws) (after t.BraceOpen (forget_all ws))
        (ref_at n ws >>= λ r. Some (RefTarget r.0, r.1)) (ref_at n (forget_all ws) >>= λ r. Some (RefTarget r.0, r.1))
        (λ o. target_at n o.1 >>= λ x. targets_at n (x.0 ∷ []) x.1 >>= λ xs. after t.BraceClose xs.1
        >>= λ c. Some (ConcatTarget o.0 (targets_of xs.0), c.1))
        (λ o. target_at n o.1 >>= λ x. targets_at n (x.0 ∷ []) x.1 >>= λ xs. after t.BraceClose xs.1
        >>= λ c. Some (ConcatTarget o.0 (targets_of xs.0), c.1))
        (after_natural A t.BraceOpen ws)
        (over_bind A bare_ref bare_target (ref_at n ws) (ref_at n (forget_all ws)) (λ r. Some (RefTarget r.0, r.1))
        (λ r. Some (RefTarget r.0, r.1)) (ref_natural A n ws) (λ r. refl))
        (λ o. over_bind A bare_target bare_target (target_at n o.1) (target_at n (forget_all o.1))
        (λ x. targets_at n (x.0 ∷ []) x.1 >>= λ xs. after t.BraceClose xs.1 >>= λ c. Some (ConcatTarget o.0 (targets_of xs.0), c.1))
        (λ x. targets_at n (x.0 ∷ []) x.1 >>= λ xs. after t.BraceClose xs.1 >>= λ c. Some (ConcatTarget tt (targets_of xs.0), c.1))
        (target_natural n o.1)
        (λ x. over_bind A (map bare_target) bare_target (targets_at n (x.0 ∷ []) x.1) (targets_at n (bare_target x.0 ∷ []) (forget_all x.1))
        (λ xs. after t.BraceClose xs.1 >>= λ c. Some (ConcatTarget o.0 (targets_of xs.0), c.1))
        (λ xs. after t.BraceClose xs.1 >>= λ c. Some (ConcatTarget tt (targets_of xs.0), c.1))
        (targets_natural n (x.0 ∷ []) x.1)
        (λ xs. over_bind A (λ (a : A). tt) bare_target (after t.BraceClose xs.1) (after t.BraceClose (forget_all xs.1))
        (λ c. Some (ConcatTarget o.0 (targets_of xs.0), c.1)) (λ c. Some (ConcatTarget tt (targets_of (map bare_target xs.0)), c.1))
        (after_natural A t.BraceClose xs.1) (λ c. ap (λ (ys : TargetsOf U). Some (ConcatTarget tt ys, forget_all c.1))
        (bare_listed xs.0)))))

    targets_natural : (n : ℕ) (xs : List (TargetOf A)) (ws : Toks A) → targets_at n (map bare_target xs) (forget_all ws)
        ≡ seen (map bare_target) (targets_at n xs ws)
    targets_natural zero xs ws = refl
    targets_natural (suc n) xs ws =
        over_found A (λ (a : A). tt) (map bare_target) (after t.Comma ws) (after t.Comma (forget_all ws)) (Some (xs, ws))
        (Some (map bare_target xs, forget_all ws))
        (λ c. target_at n c.1 >>= λ x. targets_at n (xs ++ x.0 ∷ []) x.1)
        (λ c. target_at n c.1 >>= λ x. targets_at n (map bare_target xs ++ x.0 ∷ []) x.1)
        (after_natural A t.Comma ws) refl
        (λ c. over_bind A bare_target (map bare_target) (target_at n c.1) (target_at n (forget_all c.1))
        (λ x. targets_at n (xs ++ x.0 ∷ []) x.1) (λ x. targets_at n (map bare_target xs ++ x.0 ∷ []) x.1)
        (target_natural n c.1)
        (λ x. ap (λ (es : List (TargetOf U)). targets_at n es (forget_all x.1)) (map_snoc xs x.0) ∙ targets_natural n (xs ++ x.0 ∷ []) x.1))
