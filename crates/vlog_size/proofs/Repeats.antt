-- Widths so many times.
use Rattle.std.proofs.Common.{◌≡◌, ℕ, zero, suc, ◌*◌, ◌≤◌, ◌<◌, ◌^◌, Bool, true, false, ◌&&◌, not, nat_le, min, if◌then◌else◌, List, length}
use Rattle.std.proofs.Common.{Option, None, Some, refl, ap, sym, ◌∙◌, arith}
use Rattle.std.proofs.Math.Nat.{mul-le-mul, mul-le-mul_right}
use Rattle.vlog_tree.specs.vidi_bits.Findings.{first, told_if}
use Rattle.vlog_size.specs.declared.error.SizeError.TheVariants as error
use Rattle.vlog_size.specs.Limits.{TOP}
use Rattle.vlog_size.specs.Literal.{is_lawful}
use Rattle.vlog_size.specs.Size.{Sizes, all_lawful, total_width, repeat_width, repeat_value, count_fault}
use Rattle.vlog_size.proofs.Totals.{lawful_total}

grows : (n w : ℕ) → 1 ≤ n → w ≤ n * w
grows n w h = let more : 1 * w ≤ n * w = mul-le-mul_right w h in omega (arith, more)

past : (w : ℕ) → 128 < w → is_lawful w ≡ false
past w h = grind arith

none_lawful : (w : ℕ) → w ≡ 0 → is_lawful w ≡ false
none_lawful w h = grind arith

no_width : (n w : ℕ) → w ≡ 0 → n * w ≡ 0
no_width n w h = rw h (omega arith)

past_times : (n w : ℕ) → 128 < w → is_lawful (n * w) ≡ false
past_times zero w h = let none : zero * w ≡ 0 = omega arith in none_lawful (zero * w) none
past_times (suc n) w h = let more : w ≤ suc n * w = grows (suc n) w (omega arith) in past (suc n * w) (omega (arith, more))

-- ---- a lawful width so many times is made of a lawful one
some_lawful : (w : ℕ) → is_lawful w ≡ true → 1 ≤ w
some_lawful w l = grind arith

few_lawful : (w : ℕ) → is_lawful w ≡ true → w ≤ 128
few_lawful w l = grind arith

both_lawful : (w : ℕ) → 1 ≤ w → w ≤ 128 → is_lawful w ≡ true
both_lawful w h k = grind arith

pub some_times : (n w : ℕ) → is_lawful (n * w) ≡ true → 1 ≤ n
some_times zero w l = let none : zero * w ≡ 0 = omega arith in omega (arith, some_lawful (zero * w) l, none)
some_times (suc n) w l = omega arith

unit_at : (n w : ℕ) (b : Bool) → nat_le 1 w ≡ b → is_lawful (n * w) ≡ true → 1 ≤ w
unit_at n w true h l = grind arith
unit_at n w false h l =
    let none : w ≡ 0 = grind arith in
    let some : 1 ≤ n * w = some_lawful (n * w) l in
    let gone : n * w ≡ 0 = no_width n w none in
    omega arith

pub unit_there : (n w : ℕ) → is_lawful (n * w) ≡ true → 1 ≤ w
unit_there n w l = unit_at n w (nat_le 1 w) refl l

pub unit_within : (n w : ℕ) → is_lawful (n * w) ≡ true → w ≤ 128
unit_within n w l =
    let more : w ≤ n * w = grows n w (some_times n w l) in
    let few : n * w ≤ 128 = few_lawful (n * w) l in
    omega arith

pub lawful_unit : (n w : ℕ) → is_lawful (n * w) ≡ true → is_lawful w ≡ true
lawful_unit n w l = both_lawful w (unit_there n w l) (unit_within n w l)

-- ---- widths no more than the largest number
times_capped : (n w : ℕ) → TOP < w → min (n * TOP) TOP ≡ min (n * w) TOP
times_capped zero w h =
    let none : zero * TOP ≡ 0 = omega arith in
    let other : zero * w ≡ 0 = omega arith in
    rw (none, other) refl
times_capped (suc n) w h =
    let more : TOP ≤ suc n * TOP = grows (suc n) TOP (omega arith) in
    let other : w ≤ suc n * w = grows (suc n) w (omega arith) in
    omega (arith, more, other)

product_at : (n v w : ℕ) (b : Bool) → nat_le w TOP ≡ b → v ≡ min w TOP → min (n * v) TOP ≡ min (n * w) TOP
product_at n v w true h e = let same : v ≡ w = grind arith in ap (λ (u : ℕ). min (n * u) TOP) same
product_at n v w false h e =
    let far : TOP < w = grind arith in
    let same : v ≡ TOP = omega arith in
    ap (λ (u : ℕ). min (n * u) TOP) same ∙ times_capped n w far

pub product_capped : (n : Option ℕ) (v w p : ℕ) → v ≡ min w TOP → p ≡ min (repeat_width n v) TOP → p ≡ min (repeat_width n w) TOP
product_capped None v w p e h = h
product_capped (Some n) v w p e h = h ∙ product_at n v w (nat_le w TOP) refl e

pub many_capped : (many count : Option ℕ) (v w p : ℕ) → many ≡ count → v ≡ min w TOP → p ≡ min (repeat_width many v) TOP
    → p ≡ min (repeat_width count w) TOP
many_capped many count v w p same e h = product_capped many v w p e h ∙ ap (λ (n : Option ℕ). min (repeat_width n w) TOP) same

gone : (l : Bool) (x : Option ℕ) → l ≡ false → (if l then x else None) ≡ None
gone true x h = (cc)
gone false x h = refl

value_at : (n : Option ℕ) (v w : ℕ) (x : Option ℕ) (b : Bool) → nat_le w 128 ≡ b → v ≡ min w TOP → repeat_value n v x ≡ repeat_value n w x
value_at n v w x true h e = let same : v ≡ w = grind arith in ap (λ (u : ℕ). repeat_value n u x) same
value_at None v w x false h e = refl
value_at (Some n) v w None false h e = refl
value_at (Some n) v w (Some x) false h e =
    let far : 128 < w = grind arith in
    let other : 128 < v = grind arith in
    gone (is_lawful (n * v)) _ (past_times n v other) ∙ sym (gone (is_lawful (n * w)) _ (past_times n w far))

pub value_capped : (n : Option ℕ) (v w : ℕ) (x : Option ℕ) → v ≡ min w TOP → repeat_value n v x ≡ repeat_value n w x
value_capped n v w x e = value_at n v w x (nat_le w 128) refl e

-- ---- a width that is told
exact : (n total width got count : ℕ) → n < 2 ^ 32 → total ≤ 128 * count → count < 2 ^ 64 → width ≡ min total TOP
    → got ≡ min (n * width) TOP → got ≡ n * total
exact n total width got count few small room e h =
    let least : total ≤ 2 ^ 71 = omega arith in
    let same : width ≡ total = omega arith in
    let product : n * total ≤ 2 ^ 32 * 2 ^ 71 = mul-le-mul {n₁ = n} {m₁ = total} {n₂ = 2 ^ 32} {m₂ = 2 ^ 71} (omega arith) least in
    let whole : got ≡ min (n * total) TOP = h ∙ ap (λ (u : ℕ). min (n * u) TOP) same in
    omega (arith, product, whole)

told_at : (line got whole : ℕ) (lawful : Bool) → (lawful ≡ true → got ≡ whole)
    → first (told_if (lawful && not (is_lawful got)) (error.Width line got)) ≡ first
    (told_if (lawful && not (is_lawful whole)) (error.Width line whole))
told_at line got whole false h = refl
told_at line got whole true h = ap (λ (n : ℕ). first (told_if (not (is_lawful n)) (error.Width line n))) (h refl)

pub count_told : (line n got width : ℕ) (lawful : Bool) (all : List Sizes) → n < 2 ^ 32 → length all < 2 ^ 64 → lawful ≡ all_lawful all
    → width ≡ min (total_width all) TOP → got ≡ min (n * width) TOP
    → first (told_if (lawful && not (is_lawful got)) (error.Width line got)) ≡ first (count_fault line (Some n) all)
count_told line n got width lawful all few room same e h =
    let whole = n * total_width all in
    let fits : lawful ≡ true → got ≡ n * total_width all =
    λ (l : lawful ≡ true). exact n (total_width all) width got (length all) few (lawful_total all (sym same ∙ l)) room e h in
    told_at line got whole lawful fits
    ∙ ap (λ (b : Bool). first (told_if (b && not (is_lawful whole)) (error.Width line whole))) same
