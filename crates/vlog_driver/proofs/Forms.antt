-- The targets that the parts of a concatenation have the form of.
use Rattle.std.proofs.Common.{◌≡◌, ℕ, ◌+◌, ◌<◌, ◌≤◌, List, [], ◌∷◌, ◌++◌, map, length, drop, get_or, Option, Some, None, refl, ap, sym, ◌∙◌}
use Rattle.std.proofs.Math.ListN.{drop_of_length-le}
use Rattle.std.proofs.lemmas.List.{map-append}
use Rattle.vlog_tree.specs.Tree.{ExprOf, TargetOf, TargetsOf, NoTargets, MoreTargets}
use Rattle.vlog_tree.specs.Tree as tree
use Rattle.vlog_tree.specs.Plain.{plain_expr, plain_exprs, plain_target, plain_targets}
use Rattle.vlog_tree.specs.declared.expr.Expr.{Expr}
use Rattle.vlog_tree.specs.declared.stmt.Target.{Target}
use Rattle.net_design.proofs.UpdateLaws.{from_here}
use Rattle.vlog_driver.specs.Items.{both_parts, target_of, targets_of}

-- these targets before those of what is left, where all that is left has the form of targets
abbrev pub after : List (TargetOf ℕ) → Option (TargetsOf ℕ) → Option (TargetsOf ℕ)
after [] o = o
after (t ∷ ts) o = both_parts (Some t) (after ts o)

after_none : (ts : List (TargetOf ℕ)) → after ts None ≡ None
after_none [] = refl
after_none (t ∷ ts) = ap (both_parts (Some t)) (after_none ts)

after_all : (ts : List (TargetOf ℕ)) → after ts (Some NoTargets) ≡ Some (tree.targets_of ts)
after_all [] = refl
after_all (t ∷ ts) = ap (both_parts (Some t)) (after_all ts)

after_more : (ts : List (TargetOf ℕ)) (t : TargetOf ℕ) (o : Option (TargetsOf ℕ))
    → after (ts ++ t ∷ []) o ≡ after ts (both_parts (Some t) o)
after_more [] t o = refl
after_more (u ∷ ts) t o = ap (both_parts (Some u)) (after_more ts t o)

-- the forms of all parts
abbrev Forms : List Expr → Option (TargetsOf ℕ)
Forms parts = targets_of (plain_exprs parts)

first_form : (parts : List Expr) (i : ℕ) (part : Expr) (o : Option (TargetOf ℕ)) → i < length parts → part ≡ get_or parts i part
    → o ≡ target_of (plain_expr part) → Forms (drop i parts) ≡ both_parts o (Forms (drop (i + 1) parts))
first_form parts i part o l is form =
    ap Forms (from_here parts i part l is) ∙ ap (λ x. both_parts x (Forms (drop (i + 1) parts))) (sym form)

no_form : (o : Option (TargetsOf ℕ)) → both_parts None o ≡ None
no_form None = refl
no_form (Some ts) = refl

pub form_next : (parts : List Expr) (i : ℕ) (part : Expr) (old new : List Target) (t : Target) → i < length parts
    → part ≡ get_or parts i part → Some (plain_target t) ≡ target_of (plain_expr part) → new ≡ old ++ t ∷ []
    → after (map plain_target old) (Forms (drop i parts)) ≡ Forms parts
    → after (map plain_target new) (Forms (drop (i + 1) parts)) ≡ Forms parts
form_next parts i part old new t l is form pushed so_far =
    ap (λ (ts : List Target). after (map plain_target ts) (Forms (drop (i + 1) parts))) pushed
    ∙ ap (λ (ts : List (TargetOf ℕ)). after ts (Forms (drop (i + 1) parts))) (map-append plain_target old (t ∷ []))
    ∙ after_more (map plain_target old) (plain_target t) (Forms (drop (i + 1) parts))
    ∙ ap (after (map plain_target old)) (sym (first_form parts i part (Some (plain_target t)) l is form)) ∙ so_far

pub form_none : (parts : List Expr) (i : ℕ) (part : Expr) (ts : List (TargetOf ℕ)) → i < length parts → part ≡ get_or parts i part
    → None ≡ target_of (plain_expr part) → after ts (Forms (drop i parts)) ≡ Forms parts → None ≡ Forms parts
form_none parts i part ts l is form so_far =
    sym (after_none ts) ∙ ap (after ts) (sym (first_form parts i part None l is form ∙ no_form (Forms (drop (i + 1) parts)))) ∙ so_far

pub form_done : (parts : List Expr) (i : ℕ) (ts : List Target) → length parts ≤ i
    → after (map plain_target ts) (Forms (drop i parts)) ≡ Forms parts → Some (plain_targets ts) ≡ Forms parts
form_done parts i ts l so_far =
    sym (after_all (map plain_target ts)) ∙ ap (λ (xs : List Expr). after (map plain_target ts) (Forms xs))
    (sym (drop_of_length-le parts l))
    ∙ so_far
