-- The marks of clocks, clocked block by clocked block.
use Rattle.std.proofs.Common.{◌≡◌, ℕ, zero, suc, ◌+◌, ◌<◌, ◌==◌, Bool, true, false, ◌||◌, List, [], ◌∷◌, ◌++◌, Option, None, Some}
use Rattle.std.proofs.Common.{replicate, slice_set, refl, sym, ap, ◌∙◌, arith, append-nil, append_assoc}
use Rattle.std.specs.List.{list_any}
use Rattle.std.proofs.Math.Bool.{or-false, or-true}
use Rattle.vlog_hierarchy.specs.Clock.{same_port, marks_from, clock_marks, marked}

none_from : (k n : ℕ) → marks_from k n [] ≡ replicate n false
none_from k zero = refl
none_from k (suc n) = ap (λ (bs : List Bool). false ∷ bs) (none_from (k + 1) n)

none_marked : (n : ℕ) → clock_marks n [] ≡ replicate n false
unfolding clock_marks
none_marked n = none_from 0 n

-- what a port adds to a test
one_more : (k : ℕ) (ports : List (Option ℕ)) (p : Option ℕ)
    → list_any (same_port (Some k)) (ports ++ p ∷ []) ≡ (list_any (same_port (Some k)) ports || same_port (Some k) p)
one_more k [] None = refl
one_more k [] (Some p) = at (k == p)
  where
    at : (b : Bool) → (b || false) ≡ b
    at true = refl
    at false = refl
one_more k (q ∷ ports) p = at (same_port (Some k) q) (list_any (same_port (Some k)) ports) (same_port (Some k) p) _ (one_more k ports p)
  where
    at : (a b c d : Bool) → d ≡ (b || c) → (a || d) ≡ ((a || b) || c)
    at true b c d e = refl
    at false b c d e = e

differ : (k p : ℕ) → p < k → (k == p) ≡ false
differ k p below = grind arith

same : (k : ℕ) → (k == k + 0) ≡ true
same k = grind arith

past : (k n : ℕ) (ports : List (Option ℕ)) (p : ℕ) → p < k → marks_from k n (ports ++ Some p ∷ []) ≡ marks_from k n ports
past k zero ports p below = refl
past k (suc n) ports p below =
    let head : list_any (same_port (Some k)) (ports ++ Some p ∷ []) ≡ list_any (same_port (Some k)) ports =
    one_more k ports (Some p) ∙ ap (λ b. list_any (same_port (Some k)) ports || b) (differ k p below)
    ∙ or-false (list_any (same_port (Some k)) ports) in
    ap (λ b. b ∷ marks_from (k + 1) n (ports ++ Some p ∷ [])) head
    ∙ ap (λ (bs : List Bool). list_any (same_port (Some k)) ports ∷ bs) (past (k + 1) n ports p (omega arith))

one_from : (k n i : ℕ) (ports : List (Option ℕ)) → marks_from k n (ports ++ Some (k + i) ∷ []) ≡ slice_set (marks_from k n ports) i true
one_from k zero i ports = refl
one_from k (suc n) zero ports =
    let head : list_any (same_port (Some k)) (ports ++ Some (k + 0) ∷ []) ≡ true =
    one_more k ports (Some (k + 0)) ∙ ap (λ b. list_any (same_port (Some k)) ports || b) (same k)
    ∙ or-true (list_any (same_port (Some k)) ports) in
    ap (λ b. b ∷ marks_from (k + 1) n (ports ++ Some (k + 0) ∷ [])) head
    ∙ ap (λ (bs : List Bool). true ∷ bs) (past (k + 1) n ports (k + 0) (omega arith))
one_from k (suc n) (suc i) ports =
    let head : list_any (same_port (Some k)) (ports ++ Some (k + suc i) ∷ []) ≡ list_any (same_port (Some k)) ports =
    one_more k ports (Some (k + suc i)) ∙ ap (λ b. list_any (same_port (Some k)) ports || b) (above k i)
    ∙ or-false (list_any (same_port (Some k)) ports) in
    let next : k + suc i ≡ k + 1 + i = omega arith in
    ap (λ b. b ∷ marks_from (k + 1) n (ports ++ Some (k + suc i) ∷ [])) head
    ∙ ap (λ (bs : List Bool). list_any (same_port (Some k)) ports ∷ bs)
    (ap (λ p. marks_from (k + 1) n (ports ++ Some p ∷ [])) next ∙ one_from (k + 1) n i ports)
  where
    above : (k i : ℕ) → (k == k + suc i) ≡ false
    above k i = grind arith

none_more : (k n : ℕ) (ports : List (Option ℕ)) → marks_from k n (ports ++ None ∷ []) ≡ marks_from k n ports
none_more k zero ports = refl
none_more k (suc n) ports =
    ap (λ b. b ∷ marks_from (k + 1) n (ports ++ None ∷ [])) (one_more k ports None ∙ or-false (list_any (same_port (Some k)) ports))
    ∙ ap (λ (bs : List Bool). list_any (same_port (Some k)) ports ∷ bs) (none_more (k + 1) n ports)

whole : (n : ℕ) (ports : List (Option ℕ)) → clock_marks n ports ≡ marks_from 0 n ports
unfolding clock_marks
whole n ports = refl

one_marked : (n : ℕ) (ports : List (Option ℕ)) (p : Option ℕ) → clock_marks n (ports ++ p ∷ []) ≡ marked (clock_marks n ports) p
one_marked n ports None = whole n (ports ++ None ∷ []) ∙ none_more 0 n ports ∙ sym (whole n ports)
one_marked n ports (Some p) =
    let same_place : p ≡ 0 + p = omega arith in
    whole n (ports ++ Some p ∷ []) ∙ ap (λ q. marks_from 0 n (ports ++ Some q ∷ [])) same_place ∙ one_from 0 n p ports
    ∙ ap (λ (bs : List Bool). slice_set bs p true) (sym (whole n ports))

-- the marks when these ports are marked one by one
abbrev pub marked_with : List Bool → List (Option ℕ) → List Bool
marked_with marks [] = marks
marked_with marks (p ∷ ps) = marked_with (marked marks p) ps

all_from : (n : ℕ) (before ports : List (Option ℕ)) → marked_with (clock_marks n before) ports ≡ clock_marks n (before ++ ports)
all_from n before [] = ap (clock_marks n) (sym (append-nil before))
all_from n before (p ∷ ports) =
    ap (λ (bs : List Bool). marked_with bs ports) (sym (one_marked n before p)) ∙ all_from n (before ++ p ∷ []) ports
    ∙ ap (clock_marks n) (append_assoc before (p ∷ []) ports)

pub all_marked : (n : ℕ) (ports : List (Option ℕ)) → marked_with (replicate n false) ports ≡ clock_marks n ports
all_marked n ports = ap (λ (bs : List Bool). marked_with bs ports) (sym (none_marked n)) ∙ all_from n [] ports
