-- Binary digits, eight at a time.
use Rattle.std.proofs.Common.{◌≡◌, ℕ, zero, suc, ◌+◌, ◌-◌, ◌*◌, ◌/◌, ◌%◌, ◌^◌, ◌≤◌, ◌<◌, ◌++◌, ◌&&◌, Bool, true, List, [], ◌∷◌, length, drop, set}
use Rattle.std.proofs.Common.{bit_and, ⊎_elim, refl, ap, sym, subst, ◌∙◌, arith, append_assoc, append-nil, length-append}
use Rattle.std.proofs.lemmas.Bool.{cases_order, cases_lt, and_parts}
use Rattle.std.proofs.lemmas.List.{drop-append-le, drop_all, drop-drop, drop-set}
use Rattle.std.proofs.lemmas.Nat.{pow_pos, pow-add}
use Rattle.std.proofs.lemmas.Slice.Eq.{bytes_eq-Decides}
use Rattle.std.proofs.Math.Nat.{pow-suc}
use Rattle.std.specs.Int.{to_le_bytes, w64}
use Rattle.std.specs.Str.{bytes_eq}
use Rattle.wave_text.specs.declared.value_lines.TheConstants.{BITS, ONES}
use Rattle.wave_text.specs.Digits.{binary}
use Rattle.wave_text.specs.Places.{lowest_digits}
use Rattle.wave_text.proofs.DigitLaws.{binary-small, binary-more}

pub length-lowest : (k n : ℕ) → length (lowest_digits k n) ≡ k
length-lowest zero n = refl
length-lowest (suc k) n =
    let ih = length-lowest k (n / 2) in
    length-append (lowest_digits k (n / 2)) ((48 + n % 2) ∷ []) ∙ omega (arith, ih)

-- what is above the lowest k digits doesn't count
pub lowest-same : (k n m q : ℕ) → n ≡ m + 2 ^ k * q → lowest_digits k n ≡ lowest_digits k m
lowest-same zero n m q e = refl
lowest-same (suc k) n m q e =
    let twice = ap (λ p. p * q) (pow-suc 2 k) in
    let split : n ≡ m + 2 * (2 ^ k * q) = omega (arith, e, twice) in
    ap (λ ds. ds ++ (48 + n % 2) ∷ []) (lowest-same k (n / 2) (m / 2) q (omega (arith, split)))
    ∙ ap (λ d. lowest_digits k (m / 2) ++ (48 + d) ∷ []) (omega (arith, split))

-- the highest digits left out
pub lowest-drop : (j m n : ℕ) → drop j (lowest_digits (m + j) n) ≡ lowest_digits m n
lowest-drop j zero n =
    let long = length-lowest j n in
    let e : 0 + j ≡ j = omega arith in
    ap (λ k. drop j (lowest_digits k n)) e ∙ drop_all j (lowest_digits j n) (omega (arith, long))
lowest-drop j (suc m) n =
    let long = length-lowest (m + j) (n / 2) in
    let e : suc m + j ≡ suc (m + j) = omega arith in
    ap (λ k. drop j (lowest_digits k n)) e
    ∙ drop-append-le j (lowest_digits (m + j) (n / 2)) ((48 + n % 2) ∷ []) (omega (arith, long))
    ∙ ap (λ ds. ds ++ (48 + n % 2) ∷ []) (lowest-drop j m (n / 2))

-- halved k times
abbrev halves : ℕ → ℕ → ℕ
halves zero n = n
halves (suc k) n = halves k (n / 2)

halves-none : (k : ℕ) → halves k 0 ≡ 0
halves-none zero = refl
halves-none (suc k) = halves-none k

some-half : (k n : ℕ) → 1 ≤ halves (suc k) n → 2 ≤ n
some-half k zero some = absurd (let none = halves-none k in omega (arith, some, none))
some-half k (suc zero) some = absurd (let none = halves-none k in omega (arith, some, none))
some-half k (suc (suc n)) some = omega arith

binary-halves : (k n : ℕ) → 1 ≤ halves k n → binary n ≡ binary (halves k n) ++ lowest_digits k n
binary-halves zero n some = sym (append-nil (binary n))
binary-halves (suc k) n some =
    binary-more n (some-half k n some)
    ∙ ap (λ ds. ds ++ (48 + n % 2) ∷ []) (binary-halves k (n / 2) some)
    ∙ append_assoc (binary (halves k (n / 2))) (lowest_digits k (n / 2)) ((48 + n % 2) ∷ [])

-- eight digits at once
pub binary-eight : (n : ℕ) → 256 ≤ n → binary n ≡ binary (n / 256) ++ lowest_digits 8 (n % 256)
binary-eight n big =
    let same : n / 2 / 2 / 2 / 2 / 2 / 2 / 2 / 2 ≡ n / 256 = omega arith in
    binary-halves 8 n (omega (arith, big, same))
    ∙ ap (λ h. binary h ++ lowest_digits 8 n) same
    ∙ ap (λ ds. binary (n / 256) ++ ds) (lowest-same 8 n (n % 256) (n / 256) (omega arith))

-- all digits of a number between two powers
pub binary-lowest : (k n : ℕ) → 2 ^ k ≤ n → n < 2 * 2 ^ k → binary n ≡ lowest_digits (suc k) n
binary-lowest zero n low high = binary-small n (omega (arith, high)) ∙ ap (λ d. (48 + d) ∷ []) (omega (arith, low, high))
binary-lowest (suc k) n low high =
    let twice = pow-suc 2 k in
    let some = pow_pos k in
    binary-more n (omega (arith, low, twice, some))
    ∙ ap (λ ds. ds ++ (48 + n % 2) ∷ []) (binary-lowest k (n / 2) (omega (arith, low, twice)) (omega (arith, high, twice)))

-- places are left for a letter and 16 digits
pub deeper : (at rest : ℕ) → 9 ≤ at → (at - 1) % 8 ≡ 0 → rest < 2 ^ (at - 1) → 256 ≤ rest → 17 ≤ at
deeper at rest low step small big = ⊎_elim
    (λ (e : at - 1 ≡ 8). let less : rest < 2 ^ 8 = subst (λ k. rest < 2 ^ k) e small in absurd (omega (arith, less, big)))
    (λ o. ⊎_elim
    (λ (l : at - 1 < 8). absurd (omega (arith, low, l)))
    (λ (l : 8 < at - 1). omega (arith, low, step, l))
    o)
    (cases_order (at - 1) 8)

pub lowered : (at rest : ℕ) → 17 ≤ at → rest < 2 ^ (at - 1) → rest / 256 < 2 ^ (at - 8 - 1)
lowered at rest low small =
    let e : at - 1 ≡ 8 + (at - 8 - 1) = omega (arith, low) in
    let split : 2 ^ (at - 1) ≡ 256 * 2 ^ (at - 8 - 1) = ap (λ k. 2 ^ k) e ∙ pow-add 2 8 (at - 8 - 1) in
    omega (arith, small, split)

-- a number of eight digits or fewer
small-power : (k n : ℕ) → 2 ^ k ≤ n → n < 256 → k < 8
small-power k n low small = ⊎_elim
    (λ (l : k < 8). l)
    (λ (l : 8 ≤ k). let e : k ≡ 8 + (k - 8) = omega (arith, l) in
    let split : 2 ^ k ≡ 256 * 2 ^ (k - 8) = ap (λ j. 2 ^ j) e ∙ pow-add 2 8 (k - 8) in
    let some = pow_pos (k - 8) in absurd (omega (arith, low, small, split, some)))
    (cases_lt k 8)

-- the power that a number is not below says how many digits it has
pub record Highest (n k : ℕ) : Type 0 where
  pub few : k < 8
  pub digits : drop (8 - (k + 1)) (lowest_digits 8 n) ≡ binary n

pub highest : (n k : ℕ) → n < 256 → 2 ^ k ≤ n → n < 2 * 2 ^ k → Highest n k
highest n k small low high =
    let few = small-power k n low small in
    let e : 8 ≡ suc k + (8 - (k + 1)) = omega (arith, few) in
    record {
      few = few;
      digits = ap (λ j. drop (8 - (k + 1)) (lowest_digits j n)) e ∙ lowest-drop (8 - (k + 1)) (suc k) n ∙ sym (binary-lowest k n low high);
    }

-- the text behind the last eight digits and the letter
pub ended : (places old : List ℕ) (x rest end k at : ℕ) (behind : List ℕ)
    → 9 ≤ end → k ≤ 8 → at ≡ end - k - 1 → at < length places
    → drop (end - 8) places ≡ lowest_digits 8 rest ++ drop end old → drop (8 - k) (lowest_digits 8 rest) ≡ binary rest
    → binary rest ++ drop end old ≡ binary x ++ behind → drop at (set places at 98) ≡ 98 ∷ (binary x ++ behind)
ended places old x rest end k at behind low few is within put digits so_far =
    let next : at + 1 ≡ end - 8 + (8 - k) = omega (arith, low, few, is) in
    let long = length-lowest 8 rest in
    drop-set places at 98 within
    ∙ ap (λ t. 98 ∷ t) (ap (λ i. drop i places) next ∙ sym (drop-drop (8 - k) (end - 8) places) ∙ ap (drop (8 - k)) put
    ∙ drop-append-le (8 - k) (lowest_digits 8 rest) (drop end old) (omega (arith, few, long)) ∙ ap (λ ds. ds ++ drop end old) digits ∙ so_far)

-- eight digits more
pub eight-more : (rest at before : ℕ) (places new total : List ℕ) → 256 ≤ rest → at ≡ before + 8
    → drop before new ≡ lowest_digits 8 (rest % 256) ++ drop (before + 8) places → binary rest ++ drop at places ≡ total
    → binary (rest / 256) ++ drop before new ≡ total
eight-more rest at before places new total big e put so_far =
    ap (λ t. binary (rest / 256) ++ t) (put ∙ ap (λ i. lowest_digits 8 (rest % 256) ++ drop i places) (sym e))
    ∙ sym (append_assoc (binary (rest / 256)) (lowest_digits 8 (rest % 256)) (drop at places))
    ∙ ap (λ t. t ++ drop at places) (sym (binary-eight rest big)) ∙ so_far

-- the digits of a number below 256, as they are made at once
abbrev pub spread : ℕ → List ℕ
spread n = to_le_bytes w64 (bit_and ((bit_and (n * ONES) BITS + 127 * ONES) / 2 ^ 7) ONES + 48 * ONES)

abbrev all-below : (ℕ → Bool) → ℕ → Bool
all-below test zero = true
all-below test (suc n) = test n && all-below test n

one-below : (test : ℕ → Bool) (m n : ℕ) → all-below test m ≡ true → n < m → test n ≡ true
one-below test zero n all l = absurd (omega (arith, l))
one-below test (suc m) n all l = ⊎_elim
    (λ (e : n ≡ m). ap test e ∙ (and_parts (test m) (all-below test m) all).0)
    (λ o. ⊎_elim
    (λ (below : n < m). one-below test m n (and_parts (test m) (all-below test m) all).1 below)
    (λ (above : m < n). absurd (omega (arith, l, above)))
    o)
    (cases_order n m)

abbrev is_spread : ℕ → Bool
is_spread n = bytes_eq (spread n) (lowest_digits 8 n)

pub spread-digits : (n : ℕ) → n < 256 → spread n ≡ lowest_digits 8 n
spread-digits n l = (bytes_eq-Decides (spread n) (lowest_digits 8 n)).0 (one-below is_spread 256 n refl l)

-- the place behind eight digits
pub put-at : (new old : List ℕ) (rest end : ℕ) → 9 ≤ end → drop (end - 8) new ≡ lowest_digits 8 rest ++ drop (end - 8 + 8) old
    → drop (end - 8) new ≡ lowest_digits 8 rest ++ drop end old
put-at new old rest end low put = put ∙ ap (λ i. lowest_digits 8 rest ++ drop i old) (omega (arith, low))
