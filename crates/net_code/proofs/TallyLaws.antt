-- Names that are counted, once and more than once.
use Rattle.std.proofs.Common.{◌≡◌, ℕ, ◌+◌, ◌<◌, ◌==◌, ◌&&◌, ◌||◌, nat_lt, cond, bit_and, Bool, true, false}
use Rattle.std.proofs.Common.{List, [], ◌∷◌, take, length, get_or, refl, ap, sym, ◌∙◌, arith}
use Rattle.std.specs.List.{count_by, list_any}
use Rattle.std.proofs.lemmas.Bool.{ltb-true, lt-ltb, eqb-true}
use Rattle.std.proofs.lemmas.List.Sums.{count_by_more_yes, count_by_more_no}
use Rattle.std.proofs.Math.Bool.{or-true, or-false}
use Rattle.net_design.proofs.vidi_bits_lemmas.Bools.{and_none, same_test}
use Rattle.net_design.specs.vidi_bits.Number.{has}
use Rattle.net_code.specs.declared.bit_map.BitMap.{BitMap}
use Rattle.net_code.specs.BitMap.{mask_of, in_map, is_among}
use Rattle.net_code.proofs.MaskLaws.{has_and}

-- ---- what is in a set already

seen_case : (b : Bool) (mask old bits k : ℕ) → (b ≡ true → mask ≡ old)
    → (b && (has mask k && has bits k)) ≡ (has old k && (b && has bits k))
seen_case true mask old bits k h = ap (λ n. has n k && has bits k) (h refl)
seen_case false mask old bits k h = and_none (has old k)

pub bits_seen : (once : BitMap) (net mask bits m k : ℕ) → mask ≡ mask_of once net
    → ((net == m) && has (bit_and mask bits) k) ≡ (in_map once m k && ((net == m) && has bits k))
unfolding in_map
bits_seen once net mask bits m k is =
    ap (λ b. (net == m) && b) (has_and mask bits k)
    ∙ seen_case (net == m) mask (mask_of once m) bits k (λ t. is ∙ ap (mask_of once) (eqb-true net m t))

pub seen_among : (s : Bool) (m : ℕ) (keys : List ℕ) → list_any (λ i. s && (i == m)) keys ≡ (s && is_among m keys)
seen_among true m keys = refl
seen_among false m keys = none keys
  where
    none : (keys : List ℕ) → list_any (λ (i : ℕ). false && (i == m)) keys ≡ false
    none [] = refl
    none (i ∷ keys) = none keys

-- ---- one more name in a count

implied : (x y : Bool) → (x ≡ true → y ≡ true) → (x || (y && true)) ≡ y
implied true y h = sym (h refl)
implied false true h = refl
implied false false h = refl

once_step : (c : ℕ) (b : Bool) → (nat_lt 0 c || b) ≡ nat_lt 0 (c + cond b 1 0)
once_step c true = or-true (nat_lt 0 c) ∙ sym (lt-ltb 0 (c + 1) (omega arith))
once_step c false =
    let same : c ≡ c + 0 = omega arith in
    or-false (nat_lt 0 c) ∙ ap (nat_lt 0) same

more_step : (c : ℕ) (b : Bool) → (nat_lt 1 c || (nat_lt 0 c && b)) ≡ nat_lt 1 (c + cond b 1 0)
more_step c true =
    implied (nat_lt 1 c) (nat_lt 0 c) (λ t. lt-ltb 0 c (let h : 1 < c = ltb-true 1 c t in omega arith))
    ∙ same_test (nat_lt 0 c) (nat_lt 1 (c + 1)) (λ t. lt-ltb 1 (c + 1) (let h : 0 < c = ltb-true 0 c t in omega arith))
    (λ t. lt-ltb 0 c (let h : 1 < c + 1 = ltb-true 1 (c + 1) t in omega arith))
more_step c false =
    let same : c ≡ c + 0 = omega arith in
    ap (λ b. nat_lt 1 c || b) (sym (and_none (nat_lt 0 c))) ∙ or-false (nat_lt 1 c) ∙ ap (nat_lt 1) same

more_case : {X : Type 0} → (test : X → Bool) (xs : List X) (i : ℕ) (x : X) (b : Bool) → i < length xs → x ≡ get_or xs i x → test x ≡ b
    → count_by test (take (i + 1) xs) ≡ count_by test (take i xs) + cond b 1 0
more_case test xs i x true within is e = count_by_more_yes test xs i x within (ap test (sym is) ∙ e)
more_case test xs i x false within is e =
    let same : count_by test (take i xs) ≡ count_by test (take i xs) + 0 = omega arith in
    count_by_more_no test xs i x within (ap test (sym is) ∙ e) ∙ same

more_counted : {X : Type 0} → (test : X → Bool) (xs : List X) (i : ℕ) (x : X) → i < length xs → x ≡ get_or xs i x
    → count_by test (take (i + 1) xs) ≡ count_by test (take i xs) + cond (test x) 1 0
more_counted test xs i x within is = more_case test xs i x (test x) within is refl

pub next_once : {X : Type 0} → (test : X → Bool) (xs : List X) (i : ℕ) (x : X) (old new : Bool) → i < length xs → x ≡ get_or xs i x
    → old ≡ nat_lt 0 (count_by test (take i xs)) → new ≡ (old || test x) → new ≡ nat_lt 0 (count_by test (take (i + 1) xs))
next_once test xs i x old new within is so_far grew =
    grew ∙ ap (λ b. b || test x) so_far ∙ once_step (count_by test (take i xs)) (test x)
    ∙ ap (nat_lt 0) (sym (more_counted test xs i x within is))

pub next_more : {X : Type 0} → (test : X → Bool) (xs : List X) (i : ℕ) (x : X) (once old new : Bool) → i < length xs → x ≡ get_or xs i x
    → once ≡ nat_lt 0 (count_by test (take i xs)) → old ≡ nat_lt 1 (count_by test (take i xs))
    → new ≡ (old || (once && test x)) → new ≡ nat_lt 1 (count_by test (take (i + 1) xs))
next_more test xs i x once old new within is had so_far grew =
    grew ∙ ap (λ b. b || (once && test x)) so_far ∙ ap (λ b. nat_lt 1 (count_by test (take i xs)) || (b && test x)) had
    ∙ more_step (count_by test (take i xs)) (test x) ∙ ap (nat_lt 1) (sym (more_counted test xs i x within is))
