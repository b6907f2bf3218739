-- The width of parts of lawful widths in all.
use Rattle.std.proofs.Common.{◌≡◌, ℕ, ◌+◌, ◌*◌, ◌≤◌, ◌<◌, ◌^◌, Bool, true, false, ◌&&◌, not, min, List, [], ◌∷◌, length, refl, arith, ap}
use Rattle.std.proofs.Common.{sym, ◌∙◌}
use Rattle.vlog_size.specs.declared.error.SizeError.TheVariants as error
use Rattle.std.proofs.lemmas.Grind.{common_steps}
use Rattle.vlog_tree.proofs.vidi_bits_lemmas.Bools.{left_of, right_of}
use Rattle.vlog_size.specs.Limits.{TOP}
use Rattle.vlog_size.specs.Literal.{is_lawful}
use Rattle.vlog_tree.specs.vidi_bits.Findings.{first, told_if}
use Rattle.vlog_size.specs.Size.{Sizes, has_width, all_lawful, total_width, sum_fault}

one_lawful : (p : Sizes) (rest : Bool) → (has_width p && rest) ≡ true → p.width ≤ 128
one_lawful p rest h =
    let own : is_lawful p.width ≡ true = right_of p.parts_lawful (is_lawful p.width) (left_of (has_width p) rest h) in grind arith

pub lawful_total : (ps : List Sizes) → all_lawful ps ≡ true → total_width ps ≤ 128 * length ps
lawful_total [] h = omega arith
lawful_total (p ∷ ps) h =
    let split : total_width (p ∷ ps) ≡ p.width + total_width ps = grind (arith, common_steps) in
    let more : length (p ∷ ps) ≡ 1 + length ps = omega arith in
    omega (arith, split, more, one_lawful p (all_lawful ps) h, lawful_total ps (right_of (has_width p) (all_lawful ps) h))

told_at : (line sum total : ℕ) (lawful : Bool) → (lawful ≡ true → sum ≡ total)
    → first (told_if (lawful && not (is_lawful sum)) (error.Width line sum)) ≡ first
    (told_if (lawful && not (is_lawful total)) (error.Width line total))
told_at line sum total false h = refl
told_at line sum total true h = ap (λ (n : ℕ). first (told_if (not (is_lawful n)) (error.Width line n))) (h refl)

capped : (sum total count : ℕ) → sum ≡ min total TOP → total ≤ 128 * count → count < 2 ^ 64 → sum ≡ total
capped sum total count h k small = omega arith

pub sum_told : (line sum : ℕ) (lawful : Bool) (all : List Sizes) → length all < 2 ^ 64 → lawful ≡ all_lawful all
    → sum ≡ min (total_width all) TOP
    → first (told_if (lawful && not (is_lawful sum)) (error.Width line sum)) ≡ first (sum_fault line all)
sum_told line sum lawful all small same whole =
    let exact : lawful ≡ true → sum ≡ total_width all =
    λ (h : lawful ≡ true). capped sum (total_width all) (length all) whole (lawful_total all (sym same ∙ h)) small in
    told_at line sum (total_width all) lawful exact
    ∙ ap (λ (b : Bool). first (told_if (b && not (is_lawful (total_width all))) (error.Width line (total_width all)))) same
