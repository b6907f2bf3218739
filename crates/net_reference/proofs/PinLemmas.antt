-- The pins of one direction, from port k on.
use Rattle.std.proofs.Common.{◌≡◌, ℕ, zero, suc, ◌+◌, ◌<◌, ◌≤◌, Bool, true, false, List, [], ◌∷◌, ◌++◌, if◌then◌else◌, length, get_or, drop}
use Rattle.std.proofs.Common.{slice_index, refl, ap, sym, ◌∙◌, add-one, arith}
use Rattle.std.proofs.lemmas.List.{drop_all}
use Rattle.net_design.specs.declared.design.Port.{Port}
use Rattle.net_design.specs.declared.design.Direction.{Direction}
use Rattle.net_design.specs.Settled.{same_direction, pins_of}

one_more : (b : Bool) (x : ℕ) (xs : List ℕ) → (if b then x ∷ xs else xs) ≡ (if b then x ∷ [] else []) ++ xs
one_more true x xs = refl
one_more false x xs = refl

step_suc : (d : Direction) (ports : List Port) (nets : List ℕ) (k : ℕ) (p : Port) → k < length ports → k < length nets
    → pins_of d (drop k ports) (drop k nets) ≡ (if same_direction d
    (get_or ports k p).direction then slice_index nets k ∷ [] else []) ++ pins_of d (drop (suc k) ports) (drop (suc k) nets)
step_suc d [] nets k p l h = absurd (omega arith)
step_suc d (q ∷ ports) [] k p l h = absurd (omega arith)
step_suc d (q ∷ ports) (x ∷ nets) zero p l h = one_more (same_direction d q.direction) x (pins_of d ports nets)
step_suc d (q ∷ ports) (x ∷ nets) (suc k) p l h = step_suc d ports nets k p (omega arith) (omega arith)

pub pins_step : (d : Direction) (ports : List Port) (nets : List ℕ) (k : ℕ) (p : Port) → k < length ports → k < length nets
    → p ≡ get_or ports k p
    → pins_of d (drop k ports) (drop k nets) ≡ (if same_direction d p.direction then slice_index nets k ∷ [] else []) ++ pins_of d
    (drop (k + 1) ports) (drop (k + 1) nets)
pins_step d ports nets k p l h e =
    rw add-one (step_suc d ports nets k p l h ∙ ap (λ (q : Port).
    (if same_direction d q.direction then slice_index nets k ∷ [] else []) ++ pins_of d (drop (suc k) ports) (drop (suc k) nets))
    (sym e))

no_nets : (d : Direction) (ports : List Port) → pins_of d ports [] ≡ []
no_nets d [] = refl
no_nets d (p ∷ ports) = refl

pub pins_past : (d : Direction) (ports : List Port) (nets : List ℕ) (k : ℕ) → length nets ≤ k → pins_of d (drop k ports) (drop k nets) ≡ []
pins_past d ports nets k h = ap (λ xs. pins_of d (drop k ports) xs) (drop_all k nets h) ∙ no_nets d (drop k ports)
