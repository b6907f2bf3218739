-- The bits of shifted numbers, of parts of numbers, and of numbers with a part replaced.
use Rattle.std.proofs.Common.{◌≡◌, ℕ, ◌+◌, ◌-◌, ◌*◌, ◌/◌, ◌%◌, ◌^◌, ◌<◌, ◌≤◌, min, max, bit_and, bit_or, ⊎_elim, ap, sym, ◌∙◌, add-zero}
use Rattle.std.proofs.Common.{arith, false, subst}
use Rattle.std.specs.Int.{bit_at, w128}
use Rattle.std.proofs.lemmas.Bool.{cases_lt, ne_eqb}
use Rattle.std.proofs.lemmas.Nat.{pow_pos, shr_split, shr-shr, or_lt, mod_below, and_le_l}
use Rattle.std.proofs.lemmas.Nat.Bits.{bit_at_and, bit_at_or, bit_at_not, bit_at-zero, bit_at-lt, bit_at_above, bit_at_cat_low}
use Rattle.std.proofs.lemmas.Nat.Bits.{bit_at_cat_high, bit_at_ones, bit_at_ones_above, same_from_bits_below, same_from_bits}
use Rattle.vidi_bits.specs.Number.{put_of, has}

-- ---- shifts and rests
pub bit_at-mod : (n k i : ℕ) → i < k → bit_at (n % 2 ^ k) i ≡ bit_at n i
bit_at-mod n k i l = sym (bit_at_cat_low (n / 2 ^ k) k (n % 2 ^ k) i l) ∙ ap (λ m. bit_at m i) (shr_split n k)

pub bit_at-mod_above : (n k i : ℕ) → k ≤ i → bit_at (n % 2 ^ k) i ≡ 0
bit_at-mod_above n k i l = bit_at_above (n % 2 ^ k) k i (mod_below n (2 ^ k) (pow_pos k)) l

pub bit_at-shr : (n k i : ℕ) → bit_at (n / 2 ^ k) i ≡ bit_at n (k + i)
bit_at-shr n k i = ap (λ m. m % 2) (shr-shr n k i)

pub bit_at-shl_below : (n k i : ℕ) → i < k → bit_at (n * 2 ^ k) i ≡ 0
bit_at-shl_below n k i l = ap (λ m. bit_at m i) (sym (add-zero (n * 2 ^ k))) ∙ bit_at_cat_low n k 0 i l ∙ bit_at-zero i

pub bit_at-shl_above : (n k i : ℕ) → k ≤ i → bit_at (n * 2 ^ k) i ≡ bit_at n (i - k)
bit_at-shl_above n k i l = ap (λ m. bit_at m i) (sym (add-zero (n * 2 ^ k))) ∙ bit_at_cat_high n k 0 i (pow_pos k) l

-- ---- a part: w bits from bit low on
pub bit_at-part : (x low w i : ℕ) → i < w → bit_at (x / 2 ^ low % 2 ^ w) i ≡ bit_at x (low + i)
bit_at-part x low w i l = bit_at-mod (x / 2 ^ low) w i l ∙ bit_at-shr x low i

-- ---- a part replaced
pub bit_at-put_below : (x low w part i : ℕ) → i < 128 → i < low → bit_at
    (((x / 2 ^ (low + w) * 2 ^ w + part % 2 ^ w) * 2 ^ low + x % 2 ^ low) % 2 ^ 128) i ≡ bit_at x i
bit_at-put_below x low w part i l h =
    bit_at-mod ((x / 2 ^ (low + w) * 2 ^ w + part % 2 ^ w) * 2 ^ low + x % 2 ^ low) 128 i l
    ∙ bit_at_cat_low (x / 2 ^ (low + w) * 2 ^ w + part % 2 ^ w) low (x % 2 ^ low) i h
    ∙ bit_at-mod x low i h

-- the bits from bit low on are those of what stands there
put-high : (a x low i : ℕ) → i < 128 → low ≤ i → bit_at ((a * 2 ^ low + x % 2 ^ low) % 2 ^ 128) i ≡ bit_at a (i - low)
put-high a x low i l h =
    bit_at-mod (a * 2 ^ low + x % 2 ^ low) 128 i l ∙ bit_at_cat_high a low (x % 2 ^ low) i (mod_below x (2 ^ low) (pow_pos low)) h

pub bit_at-put_inside : (x low w part i : ℕ) → i < 128 → low ≤ i → i < low + w
    → bit_at (((x / 2 ^ (low + w) * 2 ^ w + part % 2 ^ w) * 2 ^ low + x % 2 ^ low) % 2 ^ 128) i ≡ bit_at part (i - low)
bit_at-put_inside x low w part i l h u =
    let inside : i - low < w = omega arith in
    put-high (x / 2 ^ (low + w) * 2 ^ w + part % 2 ^ w) x low i l h
    ∙ bit_at_cat_low (x / 2 ^ (low + w)) w (part % 2 ^ w) (i - low) inside
    ∙ bit_at-mod part w (i - low) inside

pub bit_at-put_above : (x low w part i : ℕ) → i < 128 → low + w ≤ i → bit_at
    (((x / 2 ^ (low + w) * 2 ^ w + part % 2 ^ w) * 2 ^ low + x % 2 ^ low) % 2 ^ 128) i ≡ bit_at x i
bit_at-put_above x low w part i l h =
    let place : (low + w) + ((i - low) - w) ≡ i = omega arith in
    put-high (x / 2 ^ (low + w) * 2 ^ w + part % 2 ^ w) x low i l (omega arith)
    ∙ bit_at_cat_high (x / 2 ^ (low + w)) w (part % 2 ^ w) (i - low) (mod_below part (2 ^ w) (pow_pos w)) (omega arith)
    ∙ bit_at-shr x (low + w) ((i - low) - w)
    ∙ ap (λ j. bit_at x j) place

-- ---- a part replaced by masks of 128 bits
-- from bit 128 on there is nothing to replace
pub put-past : (x low w part : ℕ) → x < 2 ^ 128 → 128 ≤ low → x ≡ ((x / 2 ^ (low + w) * 2 ^ w + part % 2 ^ w) * 2 ^ low + x % 2 ^ low) % 2 ^
    128
put-past x low w part lx h =
    same_from_bits_below 128 x _ lx (mod_below ((x / 2 ^ (low + w) * 2 ^ w + part % 2 ^ w) * 2 ^ low + x % 2 ^ low) (2 ^ 128) (pow_pos 128))
    (λ i l. sym (bit_at-put_below x low w part i l (omega arith)))

shifted-below : (n k i : ℕ) → i < 128 → i < k → bit_at (n * 2 ^ k % 2 ^ 128) i ≡ 0
shifted-below n k i l h = bit_at-mod (n * 2 ^ k) 128 i l ∙ bit_at-shl_below n k i h

shifted-above : (n k i : ℕ) → i < 128 → k ≤ i → bit_at (n * 2 ^ k % 2 ^ 128) i ≡ bit_at n (i - k)
shifted-above n k i l h = bit_at-mod (n * 2 ^ k) 128 i l ∙ bit_at-shl_above n k i h

-- the bits outside a mask kept, and others put in
masked-bit : (x mask part i : ℕ) → mask < 2 ^ 128 → i < 128 → bit_at (bit_or (bit_and x (2 ^ 128 - 1 - mask)) part) i
    ≡ max (min (bit_at x i) (1 - bit_at mask i)) (bit_at part i)
masked-bit x mask part i lm l =
    let either = bit_at_or (bit_and x (2 ^ 128 - 1 - mask)) part i in
    let both = bit_at_and x (2 ^ 128 - 1 - mask) i in
    let outside : bit_at (2 ^ 128 - 1 - mask) i ≡ 1 - bit_at mask i = bit_at_not w128 mask i lm l in
    either ∙ ap (λ b. max b (bit_at part i)) (both ∙ ap (λ b. min (bit_at x i) b) outside)

outside-mask : (x mask part i : ℕ) → mask < 2 ^ 128 → i < 128 → bit_at mask i ≡ 0 → bit_at part i ≡ 0
    → bit_at (bit_or (bit_and x (2 ^ 128 - 1 - mask)) part) i ≡ bit_at x i
outside-mask x mask part i lm l m p = let e = masked-bit x mask part i lm l in let b = bit_at-lt x i in omega arith

inside-mask : (x mask part i : ℕ) → mask < 2 ^ 128 → i < 128 → bit_at mask i ≡ 1 → bit_at (bit_or (bit_and x (2 ^ 128 - 1 - mask)) part) i
    ≡ bit_at part i
inside-mask x mask part i lm l m = let e = masked-bit x mask part i lm l in omega arith

put-bit : (x low w part i : ℕ) → i < 128 → bit_at (bit_or (bit_and x (2 ^ 128 - 1 - (2 ^ w - 1) * 2 ^ low % 2 ^ 128))
    (part % 2 ^ w * 2 ^ low % 2 ^ 128)) i ≡ bit_at (((x / 2 ^ (low + w) * 2 ^ w + part % 2 ^ w) * 2 ^ low + x % 2 ^ low) % 2 ^ 128) i
put-bit x low w part i l =
    let lm = mod_below ((2 ^ w - 1) * 2 ^ low) (2 ^ 128) (pow_pos 128) in
    ⊎_elim
    (λ (h : i < low).
    outside-mask x _ _ i lm l (shifted-below (2 ^ w - 1) low i l h) (shifted-below (part % 2 ^ w) low i l h)
    ∙ sym (bit_at-put_below x low w part i l h))
    (λ (h : low ≤ i). ⊎_elim
    (λ (u : i < low + w).
    let inside : i - low < w = omega arith in
    inside-mask x _ _ i lm l (shifted-above (2 ^ w - 1) low i l h ∙ bit_at_ones w (i - low) inside)
    ∙ shifted-above (part % 2 ^ w) low i l h
    ∙ bit_at-mod part w (i - low) inside
    ∙ sym (bit_at-put_inside x low w part i l h u))
    (λ (u : low + w ≤ i).
    let above : w ≤ i - low = omega arith in
    outside-mask x _ _ i lm l
    (shifted-above (2 ^ w - 1) low i l h ∙ bit_at_ones_above w (i - low) above)
    (shifted-above (part % 2 ^ w) low i l h ∙ bit_at-mod_above part w (i - low) above)
    ∙ sym (bit_at-put_above x low w part i l u))
    (cases_lt i (low + w)))
    (cases_lt i low)

pub put-by_masks : (x low w part : ℕ) → x < 2 ^ 128 → bit_or (bit_and x (2 ^ 128 - 1 - (2 ^ w - 1) * 2 ^ low % 2 ^ 128))
    (part % 2 ^ w * 2 ^ low % 2 ^ 128) ≡ ((x / 2 ^ (low + w) * 2 ^ w + part % 2 ^ w) * 2 ^ low + x % 2 ^ low) % 2 ^ 128
put-by_masks x low w part lx =
    same_from_bits_below 128 _ _
    (or_lt 128 _ _ (omega (arith, and_le_l x (2 ^ 128 - 1 - (2 ^ w - 1) * 2 ^ low % 2 ^ 128)))
    (mod_below (part % 2 ^ w * 2 ^ low) (2 ^ 128) (pow_pos 128)))
    (mod_below ((x / 2 ^ (low + w) * 2 ^ w + part % 2 ^ w) * 2 ^ low + x % 2 ^ low) (2 ^ 128) (pow_pos 128))
    (λ i l. put-bit x low w part i l)

-- no bit, so not named
pub hasn't-from-bit : (mask c : ℕ) → bit_at mask c ≡ 0 → has mask c ≡ false
hasn't-from-bit mask c h = ne_eqb (bit_at mask c) 1 (λ one. absurd (omega (arith, one, h)))

pub has-above : (mask n c : ℕ) → mask < 2 ^ n → n ≤ c → has mask c ≡ false
has-above mask n c l h = hasn't-from-bit mask c (bit_at_above mask n c l h)

-- a number without a bit from w on is below 2 to the power of w
pub fits_by_bits : (n w : ℕ) → ((k : ℕ) → w ≤ k → bit_at n k ≡ 0) → n < 2 ^ w
fits_by_bits n w h =
    let same : n % 2 ^ w ≡ n = same_from_bits (n % 2 ^ w) n (λ k. ⊎_elim
    (λ (l : k < w). bit_at-mod n w k l)
    (λ (g : w ≤ k). bit_at-mod_above n w k g ∙ sym (h k g))
    (cases_lt k w)) in
    subst (λ x. x < 2 ^ w) same (mod_below n (2 ^ w) (pow_pos w))

-- a number that is written below a width still fits it
pub put_fits : (x low w y width : ℕ) → x < 2 ^ width → low + w ≤ width → put_of x low w y < 2 ^ width
put_fits x low w y width l h =
    fits_by_bits (put_of x low w y) width (λ k g. ⊎_elim
    (λ (small : k < 128). bit_at-put_above x low w y k small (omega arith) ∙ bit_at_above x width k l g)
    (λ (large : 128 ≤ k). bit_at-mod_above ((x / 2 ^ (low + w) * 2 ^ w + y % 2 ^ w) * 2 ^ low + x % 2 ^ low) 128 k large)
    (cases_lt k 128))
