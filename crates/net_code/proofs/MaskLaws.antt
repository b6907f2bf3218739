-- Masks as sets of bits, and maps of masks.
use Rattle.std.proofs.Common.{◌≡◌, ℕ, zero, suc, ◌+◌, ◌-◌, ◌*◌, ◌/◌, ◌%◌, ◌^◌, ◌<◌, ◌≤◌, min, max, ◌==◌, ◌&&◌, ◌||◌, not, nat_le, nat_lt}
use Rattle.std.proofs.Common.{Bool, true, false}
use Rattle.std.proofs.Common.{List, [], ◌∷◌, ◌++◌, Option, Some, bit_and, bit_or, if◌then◌else◌, ⊎_elim, refl, ap, sym, ◌∙◌}
use Rattle.std.proofs.Common.{arith}
use Rattle.std.specs.Int.{bit_at, w128}
use Rattle.std.specs.List.{list_any, AllByRecursion, IsDistinct}
use Rattle.std.specs.Option.{unwrap_or}
use Rattle.std.specs.Ordering.{nat_cmp, eq_by_cmp}
use Rattle.std.specs.Map.{lookup, keys_of}
use Rattle.std.specs.BTreeMap.{is_at}
use Rattle.std.specs.Cmp.{unsigned_tied}
use Rattle.std.proofs.lemmas.Bool.{cases_lt, leb-true, le-leb, ltb-true, lt-ltb, eqb-true, eq-eqb, false_from_ne_true}
use Rattle.std.proofs.lemmas.List.Folds.{list_any-append}
use Rattle.std.proofs.lemmas.Nat.Bits.{bit_at-zero, bit_at-lt, bit_at_and, bit_at_or, bit_at_not, bit_at_above, bit_at_ones}
use mathlib.Core.Path.{fun_ext}
use Rattle.net_design.proofs.vidi_bits_lemmas.Bools.{and_none, or_none, and_true, same_test}
use Rattle.net_design.proofs.vidi_bits_lemmas.BitLemmas.{bit_at-mod_above, bit_at-put_below, bit_at-put_inside, bit_at-put_above}
use Rattle.net_design.specs.declared.act.Mask.{Mask}
use Rattle.net_code.specs.declared.bit_map.BitMap.{BitMap}
use Rattle.net_design.specs.vidi_bits.Number.{has, put_of}
use Rattle.net_design.specs.Bits.{named, BitSet}
use Rattle.net_code.specs.BitMap.{mask_of, in_map}

-- ---- one bit
max_bits : (x y : ℕ) → x < 2 → y < 2 → (max x y == 1) ≡ ((x == 1) || (y == 1))
max_bits zero zero l h = refl
max_bits zero (suc zero) l h = refl
max_bits (suc zero) zero l h = refl
max_bits (suc zero) (suc zero) l h = refl
max_bits x (suc (suc y)) l h = absurd (omega arith)
max_bits (suc (suc x)) y l h = absurd (omega arith)

less_bits : (x y : ℕ) → x < 2 → y < 2 → (min x (1 - y) == 1) ≡ ((x == 1) && not (y == 1))
less_bits zero zero l h = refl
less_bits zero (suc zero) l h = refl
less_bits (suc zero) zero l h = refl
less_bits (suc zero) (suc zero) l h = refl
less_bits x (suc (suc y)) l h = absurd (omega arith)
less_bits (suc (suc x)) y l h = absurd (omega arith)

pub has_zero : (k : ℕ) → has 0 k ≡ false
has_zero k = ap (λ n. n == 1) (bit_at-zero k)

pub has_or : (a b k : ℕ) → has (bit_or a b) k ≡ (has a k || has b k)
has_or a b k = ap (λ n. n == 1) (bit_at_or a b k) ∙ max_bits (bit_at a k) (bit_at b k) (bit_at-lt a k) (bit_at-lt b k)

pub has_less : (a b k : ℕ) → a < 2 ^ 128 → b < 2 ^ 128 → has (bit_and a (2 ^ 128 - 1 - b)) k ≡ (has a k && not (has b k))
has_less a b k la lb = ⊎_elim
    (λ (l : k < 128).
    ap (λ n. n == 1) (bit_at_and a (2 ^ 128 - 1 - b) k ∙ ap (λ n. min (bit_at a k) n) (bit_at_not w128 b k lb l))
    ∙ less_bits (bit_at a k) (bit_at b k) (bit_at-lt a k) (bit_at-lt b k))
    (λ (g : 128 ≤ k).
    let z : bit_at a k ≡ 0 = bit_at_above a 128 k la g in
    let none : bit_at (bit_and a (2 ^ 128 - 1 - b)) k ≡ 0 = bit_at_and a (2 ^ 128 - 1 - b) k
    ∙ ap (λ n. min n (bit_at (2 ^ 128 - 1 - b) k)) z ∙ omega arith in
    ap (λ n. n == 1) none ∙ sym (ap (λ n. (n == 1) && not (has b k)) z))
    (cases_lt k 128)

-- the mask of w bits from bit low on
pub has_span : (low w k : ℕ) → low + w ≤ 128 → has (put_of 0 low w (2 ^ w - 1)) k ≡ (nat_le low k && nat_lt k (low + w))
has_span low w k l = ⊎_elim
    (λ (below : k < low).
    let out : nat_le low k ≡ false = false_from_ne_true _ (λ t. let h : low ≤ k = leb-true _ _ t in omega arith) in
    ap (λ n. n == 1) (bit_at-put_below 0 low w (2 ^ w - 1) k (omega arith) below ∙ bit_at-zero k)
    ∙ sym (ap (λ b. b && nat_lt k (low + w)) out))
    (λ (from : low ≤ k). ⊎_elim
    (λ (inside : k < low + w).
    ap (λ n. n == 1) (bit_at-put_inside 0 low w (2 ^ w - 1) k (omega arith) from inside ∙ bit_at_ones w (k - low) (omega arith))
    ∙ sym (ap (λ b. b && nat_lt k (low + w)) (le-leb low k from) ∙ lt-ltb k (low + w) inside))
    (λ (above : low + w ≤ k).
    let out : nat_lt k (low + w) ≡ false = false_from_ne_true _ (λ t. let h : k < low + w = ltb-true _ _ t in omega arith) in
    let none : bit_at (put_of 0 low w (2 ^ w - 1)) k ≡ 0 = ⊎_elim
    (λ (small : k < 128). bit_at-put_above 0 low w (2 ^ w - 1) k small above ∙ bit_at-zero k)
    (λ (large : 128 ≤ k). bit_at-mod_above ((0 / 2 ^ (low + w) * 2 ^ w + (2 ^ w - 1) % 2 ^ w) * 2 ^ low + 0 % 2 ^ low) 128 k large)
    (cases_lt k 128) in
    ap (λ n. n == 1) none ∙ sym (ap (λ b. b && nat_lt k (low + w)) (le-leb low k from) ∙ out))
    (cases_lt k (low + w)))
    (cases_lt k low)

-- ---- a map with one mask replaced
add_case : (b : Bool) (mask bits old k : ℕ) → (b ≡ true → mask ≡ old) → has (if b then bit_or mask bits else old) k ≡
    (has old k || (b && has bits k))
add_case true mask bits old k h = has_or mask bits k ∙ ap (λ n. has n k || has bits k) (h refl)
add_case false mask bits old k h = or_none (has old k)

remove_case : (b : Bool) (mask bits old k : ℕ) → mask < 2 ^ 128 → bits < 2 ^ 128 → (b ≡ true → mask ≡ old)
    → has (if b then bit_and mask (2 ^ 128 - 1 - bits) else old) k ≡ (has old k && not (b && has bits k))
remove_case true mask bits old k l h e = has_less mask bits k l h ∙ ap (λ n. has n k && not (has bits k)) (e refl)
remove_case false mask bits old k l h e = and_true (has old k)

module _ (old new : BitMap) (net mask bits : ℕ) where
  pub added : mask ≡ mask_of old net → ((m : ℕ) → mask_of new m ≡ (if net == m then bit_or mask bits else mask_of old m)) → (m k : ℕ)
      → in_map new m k ≡ (in_map old m k || ((net == m) && has bits k))
  unfolding in_map
  added is all m k =
      ap (λ n. has n k) (all m) ∙ add_case (net == m) mask bits (mask_of old m) k (λ t. is ∙ ap (mask_of old) (eqb-true net m t))

  pub removed : mask ≡ mask_of old net → mask < 2 ^ 128 → bits < 2 ^ 128
      → ((m : ℕ) → mask_of new m ≡ (if net == m then bit_and mask (2 ^ 128 - 1 - bits) else mask_of old m)) → (m k : ℕ)
      → in_map new m k ≡ (in_map old m k && not ((net == m) && has bits k))
  unfolding in_map
  removed is lm lb all m k =
      ap (λ n. has n k) (all m) ∙ remove_case (net == m) mask bits (mask_of old m) k lm lb (λ t. is ∙ ap (mask_of old) (eqb-true net m t))

-- no bits are added
pub none_added : (net bits m k : ℕ) (b : Bool) → bits ≡ 0 → b ≡ (b || ((net == m) && has bits k))
none_added net bits m k b e =
    let z : has bits k ≡ false = ap (λ n. has n k) e ∙ has_zero k in
    or_none b ∙ ap (λ c. b || c) (and_none (net == m) ∙ ap (λ c. (net == m) && c) (sym z))

pub none_in : (b : BitMap) → b.masks.entries ≡ [] → (m k : ℕ) → in_map b m k ≡ false
unfolding in_map
none_in b h m k = ap (λ es. has (unwrap_or (lookup (is_at (nat_cmp m)) es) 0) k) h ∙ has_zero k

-- ---- a map as masks
abbrev pub named_entries : List (ℕ × ℕ) → ℕ → ℕ → Bool
named_entries es m k = list_any (λ (e : ℕ × ℕ). (e.0 == m) && has e.1 k) es

eq_sym : (a b : ℕ) → (a == b) ≡ (b == a)
eq_sym a b = same_test (a == b) (b == a) (λ t. eq-eqb b a (sym (eqb-true a b t))) (λ t. eq-eqb a b (sym (eqb-true b a t)))

at_key : (m x : ℕ) → is_at (nat_cmp m) x ≡ (x == m)
at_key m x = unsigned_tied m x ∙ eq_sym m x

no_key : (es : List (ℕ × ℕ)) (x m k : ℕ) → AllByRecursion (λ y. eq_by_cmp nat_cmp x y ≡ false) (keys_of es) → x ≡ m
    → named_entries es m k ≡ false
no_key [] x m k h e = refl
no_key (f ∷ es) x m k h e =
    let apart : (f.0 == m) ≡ false = eq_sym f.0 m ∙ ap (λ n. n == f.0) (sym e) ∙ sym (unsigned_tied x f.0) ∙ h.0 in
    ap (λ b. (b && has f.1 k) || named_entries es m k) apart ∙ no_key es x m k h.1 e

entry_case : (b : Bool) (o : Option ℕ) (n k : ℕ) (rest : Bool) → (b ≡ true → rest ≡ false) → rest ≡ has (unwrap_or o 0) k
    → ((b && has n k) || rest) ≡ has (unwrap_or (if b then Some n else o) 0) k
entry_case true o n k rest h e = ap (λ c. has n k || c) (h refl) ∙ sym (or_none (has n k))
entry_case false o n k rest h e = e

pub entries_named : (es : List (ℕ × ℕ)) → IsDistinct (eq_by_cmp nat_cmp) (keys_of es) → (m k : ℕ)
    → named_entries es m k ≡ has (unwrap_or (lookup (is_at (nat_cmp m)) es) 0) k
unfolding IsDistinct
entries_named [] h m k = sym (has_zero k)
entries_named (e ∷ es) h m k =
    entry_case (e.0 == m) (lookup (is_at (nat_cmp m)) es) e.1 k (named_entries es m k) (λ t. no_key es e.0 m k h.0 (eqb-true e.0 m t))
    (entries_named es h.1 m k)
    ∙ ap (λ b. has (unwrap_or (if b then Some e.1 else lookup (is_at (nat_cmp m)) es) 0) k) (sym (at_key m e.0))

pub map_named : (b : BitMap) → IsDistinct (eq_by_cmp nat_cmp) (keys_of b.masks.entries) → (m k : ℕ)
    → named_entries b.masks.entries m k ≡ in_map b m k
unfolding in_map
map_named b h m k = entries_named b.masks.entries h m k

regroup : (a b c : Bool) → ((a || (b || false)) || c) ≡ (a || (b || c))
regroup true b c = refl
regroup false true c = refl
regroup false false c = refl

-- one more mask
pub one_mask : (out : List Mask) (x : Mask) (rest : List (ℕ × ℕ)) (m k : ℕ)
    → (named (out ++ x ∷ []) m k || named_entries rest m k) ≡ (named out m k || named_entries ((x.net, x.bits) ∷ rest) m k)
one_mask out x rest m k =
    ap (λ b. b || named_entries rest m k) (list_any-append (λ (y : Mask). (y.net == m) && has y.bits k) out (x ∷ []))
    ∙ regroup (named out m k) ((x.net == m) && has x.bits k) (named_entries rest m k)

and_bits : (x y : ℕ) → x < 2 → y < 2 → (min x y == 1) ≡ ((x == 1) && (y == 1))
and_bits zero zero l h = refl
and_bits zero (suc zero) l h = refl
and_bits (suc zero) zero l h = refl
and_bits (suc zero) (suc zero) l h = refl
and_bits x (suc (suc y)) l h = absurd (omega arith)
and_bits (suc (suc x)) y l h = absurd (omega arith)

pub has_and : (a b k : ℕ) → has (bit_and a b) k ≡ (has a k && has b k)
has_and a b k = ap (λ n. n == 1) (bit_at_and a b k) ∙ and_bits (bit_at a k) (bit_at b k) (bit_at-lt a k) (bit_at-lt b k)

-- a set's mask of a net
pub net_is : (set : BitMap) (m k n : ℕ) → n ≡ mask_of set m → has n k ≡ in_map set m k
unfolding in_map
net_is set m k n e = ap (λ x. has x k) e

pub one_key : (key m : ℕ) → ((key == m) && has 1 0) ≡ (key == m)
one_key key m = sym (and_true (key == m))

pub same_sets : (p q : BitSet) → ((m k : ℕ) → p m k ≡ q m k) → p ≡ q
same_sets p q h = fun_ext (λ m. fun_ext (λ k. h m k))
