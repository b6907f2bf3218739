-- The parts of a concatenation that are left, of an expression and of a target.
use Rattle.std.proofs.Common.{◌≡◌, ℕ, ◌+◌, ◌^◌, ◌<◌, ◌≤◌, suc, List, [], ◌∷◌, length, drop, get_or, drop-cons, add-one, ap, sym, ◌∙◌}
use Rattle.std.proofs.Common.{refl, subst, arith}
use Rattle.std.proofs.lemmas.List.{drop_all}
use Rattle.vlog_tree.specs.declared.expr.Expr.{Expr}
use Rattle.vlog_tree.specs.declared.stmt.Target.{Target}
use Rattle.vlog_tree.specs.Plain.{plain_expr, plain_exprs, plain_target, plain_targets}
use Rattle.vlog_size.specs.Names.{Readable}
use Rattle.vlog_size.specs.declared.facts.Parts.{Parts}
use Rattle.vlog_size.specs.declared.evaluated.Gathered.{Gathered}
use Rattle.vlog_size.specs.Size.{Sizes, sizes_of, sizes_of_all, sizes_of_target, sizes_of_targets}
use Rattle.vlog_size.specs.Facts.{ShowsRest, ShowsGathered}

count_same : (s : Readable) (es : List Expr) → length es ≡ length (sizes_of_all s (plain_exprs es))
count_same s [] = refl
count_same s (e ∷ es) = ap suc (count_same s es)

pub parts_few : (s : Readable) (es : List Expr) → length es < 2 ^ 64 → length (sizes_of_all s (plain_exprs es)) < 2 ^ 64
parts_few s es h = omega (arith, count_same s es)

pub next_gathered : (so_far : Gathered) (s : Readable) (es : List Expr) (i : ℕ) (x : Expr) (all : List Sizes) → i < length es
    → x ≡ get_or es i x
    → ShowsGathered so_far (sizes_of_all s (plain_exprs (drop i es))) all
    → ShowsGathered so_far (sizes_of s (plain_expr x) ∷ sizes_of_all s (plain_exprs (drop (i + 1) es))) all
next_gathered so_far s es i x all within is h =
    let split : drop i es ≡ get_or es i x ∷ drop (suc i) es = drop-cons es i x within in
    let found : drop i es ≡ x ∷ drop (i + 1) es = split ∙ (ap (λ (e : Expr). e ∷ drop (suc i) es) (sym is) ∙ rw add-one refl) in
    let P : List Expr → Type 0 = λ l. ShowsGathered so_far (sizes_of_all s (plain_exprs l)) all in
    subst P found h

pub none_gathered : (so_far : Gathered) (s : Readable) (es : List Expr) (i : ℕ) (all : List Sizes) → length es ≤ i
    → ShowsGathered so_far (sizes_of_all s (plain_exprs (drop i es))) all → ShowsGathered so_far [] all
none_gathered so_far s es i all over h =
    let P : List Expr → Type 0 = λ l. ShowsGathered so_far (sizes_of_all s (plain_exprs l)) all in
    subst P (drop_all i es over) h

-- ---- targets
targets_same : (s : Readable) (ts : List Target) → length ts ≡ length (sizes_of_targets s (plain_targets ts))
targets_same s [] = refl
targets_same s (t ∷ ts) = ap suc (targets_same s ts)

pub targets_few : (s : Readable) (ts : List Target) → length ts < 2 ^ 64 → length (sizes_of_targets s (plain_targets ts)) < 2 ^ 64
targets_few s ts h = omega (arith, targets_same s ts)

pub next_target : (so_far : Parts) (s : Readable) (es : List Target) (i : ℕ) (x : Target) (all : List Sizes) → i < length es
    → x ≡ get_or es i x
    → ShowsRest so_far (sizes_of_targets s (plain_targets (drop i es))) all
    → ShowsRest so_far (sizes_of_target s (plain_target x) ∷ sizes_of_targets s (plain_targets (drop (i + 1) es))) all
next_target so_far s es i x all within is h =
    let split : drop i es ≡ get_or es i x ∷ drop (suc i) es = drop-cons es i x within in
    let found : drop i es ≡ x ∷ drop (i + 1) es = split ∙ (ap (λ (e : Target). e ∷ drop (suc i) es) (sym is) ∙ rw add-one refl) in
    let P : List Target → Type 0 = λ l. ShowsRest so_far (sizes_of_targets s (plain_targets l)) all in
    subst P found h

pub no_target : (so_far : Parts) (s : Readable) (es : List Target) (i : ℕ) (all : List Sizes) → length es ≤ i
    → ShowsRest so_far (sizes_of_targets s (plain_targets (drop i es))) all → ShowsRest so_far [] all
no_target so_far s es i all over h =
    let P : List Target → Type 0 = λ l. ShowsRest so_far (sizes_of_targets s (plain_targets l)) all in
    subst P (drop_all i es over) h
