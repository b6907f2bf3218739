-- What lists of places, statements and guards name, one list after the other.
use Rattle.std.proofs.Common.{◌≡◌, ℕ, ◌+◌, List, [], ◌∷◌, ◌++◌, Bool, true, false, cond, refl, ap, ◌∙◌, arith}
use Rattle.std.proofs.lemmas.List.Sums.{sum_by-append, sum_by-cons}
use Rattle.std.specs.List.{count_by, flat_map}
use Rattle.std.proofs.lemmas.Grind.{flat_map-append}
use Rattle.vlog_size.specs.vidi_bits.Number.{truth}
use Rattle.net_design.specs.declared.act.Act.{Act}
use Rattle.net_design.specs.declared.act.Guard.{Guard}
use Rattle.net_design.specs.declared.act.Place.{Place}
use Rattle.net_code.specs.Targets.{targets, block_targets, guard_targets}
use Rattle.vlog_block.specs.Naming.{place_name, place_names, code_names, guard_names}

pub names_append : (ps qs : List Place) → place_names (ps ++ qs) ≡ place_names ps ++ place_names qs
names_append [] qs = refl
names_append (p ∷ ps) qs = ap (λ ns. place_name p ∷ ns) (names_append ps qs)

pub code_append : (xs ys : List Act) → code_names (xs ++ ys) ≡ code_names xs ++ code_names ys
unfolding block_targets
code_append xs ys = ap place_names (flat_map-append targets xs ys) ∙ names_append (flat_map targets xs) (flat_map targets ys)

pub guards_append : (xs ys : List Guard) → guard_names (xs ++ ys) ≡ guard_names xs ++ guard_names ys
unfolding guard_targets
guards_append xs ys =
    let body : Guard → List Place = λ g. block_targets g.body in
    ap place_names (flat_map-append body xs ys) ∙ names_append (flat_map body xs) (flat_map body ys)

pub sum_assoc : (a b c : ℕ) → a + b + c ≡ a + (b + c)
sum_assoc a b c = omega arith

lone : (b : Bool) → cond b 1 0 + 0 ≡ truth b
lone true = refl
lone false = refl

-- one more place at the end
pub count_end : (f : Place → Bool) (ps : List Place) (p : Place) → count_by f (ps ++ p ∷ []) ≡ count_by f ps + truth (f p)
count_end f ps p =
    sum_by-append (λ x. cond (f x) 1 0) ps (p ∷ [])
    ∙ ap (λ n. count_by f ps + n) (sum_by-cons (λ x. cond (f x) 1 0) p [] ∙ lone (f p))
