-- Numbers in bytes: what a loop over the bytes computes, and that spelling and reading undo each other.
use Rattle.std.proofs.Common.{◌≡◌, ℕ, zero, suc, ◌+◌, ◌-◌, ◌*◌, ◌/◌, ◌%◌, ◌^◌, ◌<◌, ◌≤◌, Bool, true, false, cond, ltb, List, [], ◌∷◌, ◌++◌}
use Rattle.std.proofs.Common.{length, get_or, take, drop, Option, Some, None, fold, refl, sym, ap, subst, ◌∙◌, append_assoc, arith, inl}
use Rattle.std.proofs.Common.{inr, pow-suc, mul_comm}
use Rattle.std.specs.Prelude.{replicate}
use Rattle.std.specs.Int.{byte_at, byte_worth, bytes_low_first, bytes_high_first, from_be_bytes, sum_through, w128}
use Rattle.std.proofs.Math.Nat.{pow-le-pow_right, mod-eq_of_lt, mul-add-div_right, div-div-eq-div-mul, div-one, mul-add-mod_self_right}
use Rattle.std.proofs.Math.Nat.{div-lt_iff_lt-mul, mul-le-mul_right}
use Rattle.std.proofs.lemmas.Nat.{pow-add}
use Rattle.std.proofs.Math.Arith.{mod-mul}
use Rattle.std.proofs.lemmas.Bool.{cases_lt, ltb-true, ltb-false, lt-ltb, le-ltb}
use Rattle.std.proofs.lemmas.Option.{cond_some}
use Rattle.std.proofs.lemmas.List.{take_at, drop_at, take-append-drop, length-append, length-take, drop_more, get_or-drop, get_or-take}
use Rattle.std.proofs.lemmas.List.{get_or_past, get_or_default, take_all, drop_all, append-nil}
use Rattle.vec_clock.specs.trace_model.Channel.{byte_count}
use Rattle.vec_clock.specs.trace_model.Length.{mask_len}
use Rattle.vec_clock.proofs.trace_model_lemmas.CountingLemmas.{take-more_read}
use Rattle.trace_code.specs.Encoding.{mask_bytes}
use Rattle.trace_code.specs.Writing.{overwritten}
use Rattle.trace_code.specs.PacketReading.{low_value, high_value, sized_at, mask_at, number_at}

-- ---- one byte more in a loop

pub some_unit : (k : ℕ) → 0 < 256 ^ k
some_unit k = pow-le-pow_right {n = 256} (omega arith) {i = 0} {j = k} (omega arith)

pub grows : (i v b : ℕ) → v < 256 ^ i → b < 256 → v * 256 + b < 256 ^ suc i
grows i v b small byte = let wider = pow-suc 256 i in omega arith

pub value_fits : (i v b : ℕ) → i < 16 → v < 256 ^ i → b < 256 → v * 256 + b < 2 ^ 128
value_fits i v b few small byte =
    let most = pow-le-pow_right {n = 256} (omega arith) {i = suc i} {j = 16} (omega arith) in
    let grown = grows i v b small byte in
    omega arith

pub low_value-more : (bytes : List ℕ) (i : ℕ) → i < length bytes → low_value (drop i bytes) ≡ get_or bytes i 0
    + 256 * low_value (drop (i + 1) bytes)
low_value-more bytes i lt = ap low_value (drop_more bytes i 0 lt)

pub low_value-down : (bytes : List ℕ) (i v b : ℕ) → 0 < i → i ≤ length bytes → b ≡ get_or bytes (i - 1) 0 → v ≡ low_value (drop i bytes)
    → v * 256 + b ≡ low_value (drop (i - 1) bytes)
low_value-down bytes i v b some within byte value =
    let next : i - 1 + 1 ≡ i = omega arith in
    let more : low_value (drop (i - 1) bytes) ≡ get_or bytes (i - 1) 0
    + 256 * low_value (drop i bytes) = low_value-more bytes (i - 1) (omega arith)
    ∙ ap (λ (j : ℕ). get_or bytes (i - 1) 0 + 256 * low_value (drop j bytes)) next in
    omega arith

pub grows-down : (n i v b : ℕ) → 0 < i → i ≤ n → v < 256 ^ (n - i) → b < 256 → v * 256 + b < 256 ^ (n - (i - 1))
grows-down n i v b some within small byte =
    let next : n - (i - 1) ≡ suc (n - i) = omega arith in
    rw next (grows (n - i) v b small byte)

-- ---- bytes

abbrev pub IsBytes : List ℕ → Type 0
IsBytes bytes = (i : ℕ) → get_or bytes i 0 < 256

pub IsBytes-drop : (n : ℕ) (bytes : List ℕ) → IsBytes bytes → IsBytes (drop n bytes)
IsBytes-drop n bytes h i = rw get_or-drop (h (n + i))

pub IsBytes-take : (n : ℕ) (bytes : List ℕ) → IsBytes bytes → IsBytes (take n bytes)
IsBytes-take n bytes h i =
    elim (cases_lt i n) [
      | inl lt ↦ rw (get_or-take n bytes i 0 lt) (h i)
      | inr le ↦ rw (get_or_past (take n bytes) i 0 (omega (arith, length-take n bytes))) (omega arith)
    ]

pub IsBytes-rest : (b : ℕ) (bytes : List ℕ) → IsBytes (b ∷ bytes) → IsBytes bytes
IsBytes-rest b bytes h i = h (suc i)

byte_at-pow : (k x : ℕ) → byte_at k x ≡ x / 256 ^ k % 256
byte_at-pow zero x = ap (λ (y : ℕ). y % 256) (sym (div-one x))
byte_at-pow (suc k) x = refl

-- ---- the lowest byte first

pub length-low : (i k x : ℕ) → length (bytes_low_first i k x) ≡ k
length-low i zero x = refl
length-low i (suc k) x = ap suc (length-low (suc i) k x)

low-shift : (i b v : ℕ) → b < 256 → byte_at (suc i) (b + 256 * v) ≡ byte_at i v
low-shift i b v byte =
    let wider : 256 ^ suc i ≡ 256 * 256 ^ i = pow-suc 256 i ∙ mul_comm (256 ^ i) 256 in
    let high : (b + 256 * v) / 256 ≡ v = omega arith in
    let moved : (b + 256 * v) / 256 ^ suc i ≡ v / 256 ^ i = ap (λ (u : ℕ). (b + 256 * v) / u) wider
    ∙ sym (div-div-eq-div-mul (b + 256 * v) 256 (256 ^ i)) ∙ ap (λ (y : ℕ). y / 256 ^ i) high in
    ap (λ (y : ℕ). y % 256) moved ∙ sym (byte_at-pow i v)

low-rest : (i k b v : ℕ) → b < 256 → bytes_low_first (suc i) k (b + 256 * v) ≡ bytes_low_first i k v
low-rest i zero b v byte = refl
low-rest i (suc k) b v byte = rw (low-shift i b v byte, low-rest (suc i) k b v byte) refl

low-back : (bytes : List ℕ) → IsBytes bytes → bytes_low_first 0 (length bytes) (low_value bytes) ≡ bytes
low-back [] fits = refl
low-back (b ∷ bs) fits =
    let first : (b + 256 * low_value bs) % 256 ≡ b = (let byte = fits 0 in omega arith) in
    rw (first, low-rest 0 (length bs) b (low_value bs) (fits 0), low-back bs (IsBytes-rest b bs fits)) refl

low-again : (i k x : ℕ) → low_value (bytes_low_first i k x) ≡ x / 256 ^ i % 256 ^ k
low-again i zero x = omega arith
low-again i (suc k) x =
    let y = x / 256 ^ i in
    let wider = pow-suc 256 k in
    let next : x / 256 ^ suc i ≡ y / 256 = ap (λ (p : ℕ). x / p) (pow-suc 256 i) ∙ sym (div-div-eq-div-mul x (256 ^ i) 256) in
    let split = mod-mul y {m = 256 ^ k} {c = 256} (some_unit k) (omega arith) in
    rw (byte_at-pow i x, low-again (suc i) k x, next, wider, split) (omega arith)

-- ---- the highest byte first

pub length-high : (k x : ℕ) → length (bytes_high_first k x) ≡ k
length-high zero x = refl
length-high (suc k) x = ap suc (length-high k x)

high-from : (high : ℕ) (bytes : List ℕ) → fold (λ h b. h * 256 + b) high bytes ≡ high * 256 ^ length bytes
    + fold (λ h b. h * 256 + b) 0 bytes
high-from high [] = omega arith
high-from high (b ∷ bs) =
    let wider = pow-suc 256 (length bs) in
    let unit = 256 ^ length bs in
    let low = fold (λ h b. h * 256 + b) 0 bs in
    let here : fold (λ h b. h * 256 + b) high (b ∷ bs) ≡ (high * 256 + b) * unit + low = high-from (high * 256 + b) bs in
    let there : fold (λ h b. h * 256 + b) 0 (b ∷ bs) ≡ (0 * 256 + b) * unit + low = high-from (0 * 256 + b) bs in
    here ∙ rw (there, wider) (omega arith)

high_value-cons : (b : ℕ) (bs : List ℕ) → high_value (b ∷ bs) ≡ b * 256 ^ length bs + high_value bs
unfolding high_value
high_value-cons b bs = high-from (0 * 256 + b) bs ∙ omega arith

high-small : (bytes : List ℕ) → IsBytes bytes → high_value bytes < 256 ^ length bytes
high-small [] fits = (unfold high_value in omega arith)
high-small (b ∷ bs) fits =
    let byte = fits 0 in
    let wider = pow-suc 256 (length bs) in
    let rest = high-small bs (IsBytes-rest b bs fits) in
    let whole = high_value-cons b bs in
    let room : (b + 1) * 256 ^ length bs ≤ 256 * 256 ^ length bs = mul-le-mul_right (256 ^ length bs) (omega arith) in
    omega arith

high-rest : (k high v : ℕ) → bytes_high_first k (high * 256 ^ k + v) ≡ bytes_high_first k v
high-rest zero high v = refl
high-rest (suc k) high v =
    let wider = pow-suc 256 k in
    let unit = 256 ^ k in
    let parted : high * 256 ^ suc k + v ≡ high * 256 * unit + v = rw wider (omega arith) in
    let over : (high * 256 * unit + v) / unit ≡ high * 256 + v / unit = mul-add-div_right (some_unit k) (high * 256) v in
    let first : byte_at k (high * 256 * unit + v) ≡ byte_at k v = byte_at-pow k (high * 256 * unit + v) ∙ ap (λ (y : ℕ). y % 256) over
    ∙ mul-add-mod_self_right high 256 (v / unit) ∙ sym (byte_at-pow k v) in
    rw (parted, first, high-rest k (high * 256) v) refl

high-back : (bytes : List ℕ) → IsBytes bytes → bytes_high_first (length bytes) (high_value bytes) ≡ bytes
high-back [] fits = refl
high-back (b ∷ bs) fits =
    let k = length bs in
    let unit = 256 ^ k in
    let byte = fits 0 in
    let small = high-small bs (IsBytes-rest b bs fits) in
    let over : (b * unit + high_value bs) / unit ≡ b + high_value bs / unit = mul-add-div_right (some_unit k) b (high_value bs) in
    let none : high_value bs / unit ≡ 0 = (let below = (div-lt_iff_lt-mul {k = unit} {x = high_value bs} {y = 1} (some_unit k)).1
    (omega arith) in omega arith) in
    let first : byte_at k (b * unit + high_value bs) ≡ b = byte_at-pow k (b * unit + high_value bs)
    ∙ ap (λ (y : ℕ). y % 256) (over ∙ ap (λ (y : ℕ). b + y) none) ∙ omega arith in
    ap (bytes_high_first (suc k)) (high_value-cons b bs) ∙ rw (first, high-rest k b (high_value bs), high-back bs (IsBytes-rest b bs fits))
    refl

-- one more byte in front of the low k bytes
byte_on : (k n high : ℕ) → (high * 256 + byte_at k n) * 256 ^ k + n % 256 ^ k ≡ high * 256 ^ suc k + n % 256 ^ suc k
byte_on k n high =
    let unit = 256 ^ k in
    let wider : 256 ^ suc k ≡ 256 * unit = pow-suc 256 k ∙ mul_comm unit 256 in
    rw (byte_at-pow k n, wider, mod-mul n {m = 256} {c = unit} (omega arith) (some_unit k)) (omega arith)

high-read : (k n high : ℕ) → fold (λ h b. h * 256 + b) high (bytes_high_first k n) ≡ high * 256 ^ k + n % 256 ^ k
high-read zero n high = omega arith
high-read (suc k) n high = high-read k n (high * 256 + byte_at k n) ∙ byte_on k n high

high-again : (k n : ℕ) → high_value (bytes_high_first k n) ≡ n % 256 ^ k
unfolding high_value
high-again k n = high-read k n 0 ∙ omega arith

-- ---- in a buffer of 16 bytes
byte-worth : (i b : ℕ) → byte_worth i b ≡ b * 256 ^ i
byte-worth zero b = omega arith
byte-worth (suc i) b = refl

high-push : (high : ℕ) (bytes : List ℕ) (b : ℕ) → fold (λ h x. h * 256 + x) high (bytes ++ b ∷ [])
    ≡ fold (λ h x. h * 256 + x) high bytes * 256 + b
high-push high [] b = refl
high-push high (x ∷ bytes) b = high-push (high * 256 + x) bytes b

-- of the bytes of a number, the first k + 1
through : (bytes : List ℕ) (m k : ℕ) → k ≤ m → k < length bytes
    → sum_through (λ i. byte_worth (m - i) (get_or bytes i 0)) k ≡ high_value (take (k + 1) bytes) * 256 ^ (m - k)
unfolding high_value
through [] m zero l within = absurd (omega (arith, within))
through (b ∷ bytes) m zero l within = byte-worth (m - 0) b
    ∙ ap (λ n. n * 256 ^ (m - 0)) (let e : b ≡ 0 * 256 + b = omega arith in e)
through bytes m (suc k) l within =
    let b = get_or bytes (suc k) 0 in
    let unit = 256 ^ (m - suc k) in
    let wider : 256 ^ (m - k) ≡ unit * 256 = ap (λ n. 256 ^ n) (let e : m - k ≡ suc (m - suc k) = omega arith in e)
    ∙ pow-suc 256 (m - suc k) in
    let more : take (suc k + 1) bytes ≡ take (suc k) bytes ++ b ∷ [] = take-more_read bytes (suc k) b within
    (get_or_default bytes (suc k) 0 b within) in
    let whole : high_value (take (suc k + 1) bytes) ≡ high_value (take (suc k) bytes) * 256 + b = ap high_value more
    ∙ high-push 0 (take (suc k) bytes) b in
    let next : take (k + 1) bytes ≡ take (suc k) bytes = ap (λ n. take n bytes) (let e : k + 1 ≡ suc k = omega arith in e) in
    let before : sum_through (λ i. byte_worth (m - i) (get_or bytes i 0)) k ≡ high_value (take (suc k) bytes) * (unit * 256) =
    through bytes m k (omega arith) (omega arith) ∙ ap (λ (bs : List ℕ). high_value bs * 256 ^ (m - k)) next
    ∙ ap (λ n. high_value (take (suc k) bytes) * n) wider in
    let last : byte_worth (m - suc k) b ≡ b * unit = byte-worth (m - suc k) b in
    rw (before, last, whole) (omega arith)

be-value : (bytes : List ℕ) → length bytes ≡ 16 → from_be_bytes w128 bytes ≡ high_value bytes
be-value bytes l =
    let all : take 16 bytes ≡ bytes = take_all 16 bytes (omega arith) in
    through bytes 15 15 (omega arith) (omega arith)
    ∙ (let e : high_value (take 16 bytes) * 1 ≡ high_value (take 16 bytes) = omega arith in e) ∙ ap high_value all

-- zeros in front
zeros : (k n : ℕ) (bytes : List ℕ) → high_value (take k (replicate n 0) ++ bytes) ≡ high_value bytes
zeros zero n bytes = refl
zeros (suc k) zero bytes = refl
zeros (suc k) (suc n) bytes =
    let rest = take k (replicate n 0) ++ bytes in
    high_value-cons 0 rest ∙ (let e : 0 * 256 ^ length rest + high_value rest ≡ high_value rest = omega arith in e) ∙ zeros k n bytes

pub whole-value : (bytes : List ℕ) → length bytes ≤ 16
    → from_be_bytes w128 (overwritten (replicate 16 0) (16 - length bytes) bytes) ≡ high_value bytes
whole-value bytes l =
    let k = 16 - length bytes in
    let front : List ℕ = take k (replicate 16 0) in
    let blank : List ℕ = replicate 16 0 in
    let sixteen : length blank ≡ 16 = refl in
    let none : drop (k + length bytes) (replicate 16 0) ≡ [] = drop_all (k + length bytes) (replicate 16 0) (omega (arith, sixteen)) in
    let parts : overwritten (replicate 16 0) k bytes ≡ front ++ bytes = ap (λ (bs : List ℕ). front ++ (bytes ++ bs)) none
    ∙ ap (λ (bs : List ℕ). front ++ bs) (append-nil bytes) in
    let long : length (front ++ bytes) ≡ 16 = omega (arith, length-append front bytes, length-take k blank, sixteen)
    in
    ap (from_be_bytes w128) parts ∙ be-value (front ++ bytes) long ∙ zeros k 16 bytes

-- ---- numbers of a size

-- the bytes that hold this many bits hold each number below 2 to the power of them
pub eights : (m : ℕ) → 2 ^ (8 * m) ≡ 256 ^ m
eights zero = refl
eights (suc m) =
    let split : 8 * suc m ≡ 8 * m + 8 = omega arith in
    rw (split, pow-add 2 (8 * m) 8, eights m, pow-suc 256 m) refl

held : (bits x : ℕ) → x < 2 ^ bits → x < 256 ^ ((bits + 7) / 8)
held bits x lt =
    let most = pow-le-pow_right {n = 2} (omega arith) {i = bits} {j = 8 * ((bits + 7) / 8)} (omega arith) in
    let same = eights ((bits + 7) / 8) in
    omega arith

-- what a reader took from the front
pub record Takes (bytes text rest : List ℕ) : Type 0 where
  pub parts : bytes ≡ text ++ rest
  pub rest_fits : IsBytes rest

pub Takes-then : (a x b y c : List ℕ) → Takes a x b → Takes b y c → Takes a (x ++ y) c
Takes-then a x b y c p q = record {
  parts = p.parts ∙ ap (λ (t : List ℕ). x ++ t) q.parts
      ∙ sym (append_assoc x y c);
  rest_fits = q.rest_fits;
}

pub refused : {A : Type 0} (b : Bool) (o : Option A) (y : A) → cond b None o ≡ Some y → (b ≡ false) × (o ≡ Some y)
refused true o y e = absurd cc
refused false o y e = (refl, e)

sized_takes : (value : List ℕ → ℕ) (len limit : ℕ) (spell : ℕ → List ℕ)
    → ((bs : List ℕ) → length bs ≡ len → IsBytes bs → spell (value bs) ≡ bs)
    → (bytes : List ℕ) (x : ℕ × List ℕ) → IsBytes bytes → sized_at value len limit bytes ≡ Some x → Takes bytes (spell x.0) x.1
    × (x.0 < limit)
unfolding sized_at
sized_takes value len limit spell back bytes x fits e =
    let outer = refused (ltb (length bytes) len) _ x e in
    let inner = cond_some (ltb (value (take len bytes)) limit) (value (take len bytes), drop len bytes) x outer.1 in
    let long : len ≤ length bytes = ltb-false _ _ outer.0 in
    let front : spell (value (take len bytes)) ≡ take len bytes = back (take len bytes) (omega (arith, length-take len bytes))
    (IsBytes-take len bytes fits) in
    let whole : bytes ≡ spell (value (take len bytes)) ++ drop len bytes = rw front (sym (take-append-drop len bytes)) in
    subst (λ (y : ℕ × List ℕ). Takes bytes (spell y.0) y.1 × (y.0 < limit)) inner.1
    (record { parts = whole; rest_fits = IsBytes-drop len bytes fits }, ltb-true _ _ inner.0)

sized_again : (value : List ℕ → ℕ) (len limit : ℕ) (spell : ℕ → List ℕ) (x : ℕ) (rest : List ℕ) → length (spell x) ≡ len → value (spell x)
    ≡ x → x < limit
    → sized_at value len limit (spell x ++ rest) ≡ Some (x, rest)
unfolding sized_at
sized_again value len limit spell x rest size again lt =
    let long : ltb (length (spell x ++ rest)) len ≡ false = le-ltb _ _ (omega (arith, length-append (spell x) rest)) in
    rw (long, take_at (spell x) rest len size, drop_at (spell x) rest len size, again, lt-ltb x limit lt) refl

pub mask_takes : (n : ℕ) (bytes : List ℕ) (x : ℕ × List ℕ) → IsBytes bytes → mask_at n bytes ≡ Some x → Takes bytes (mask_bytes n x.0) x.1
    × (x.0 < 2 ^ n)
mask_takes n bytes x fits e =
    sized_takes low_value (mask_len n) (2 ^ n) (mask_bytes n) (λ bs size whole. subst (λ (k : ℕ). bytes_low_first 0 k (low_value bs) ≡ bs)
    size (low-back bs whole)) bytes x fits e

pub mask_again : (n x : ℕ) (rest : List ℕ) → x < 2 ^ n → mask_at n (mask_bytes n x ++ rest) ≡ Some (x, rest)
mask_again n x rest lt =
    sized_again low_value (mask_len n) (2 ^ n) (mask_bytes n) x rest (length-low 0 (mask_len n) x)
    (low-again 0 (mask_len n) x ∙ ap (λ (y : ℕ). y % 256 ^ mask_len n) (div-one x) ∙ mod-eq_of_lt (held n x lt)) lt

pub number_takes : (w : ℕ) (bytes : List ℕ) (x : ℕ × List ℕ) → IsBytes bytes → number_at w bytes ≡ Some x
    → Takes bytes (bytes_high_first (byte_count w) x.0) x.1 × (x.0 < 2 ^ w)
number_takes w bytes x fits e =
    sized_takes high_value (byte_count w) (2 ^ w) (bytes_high_first (byte_count w))
    (λ bs size whole. subst (λ (k : ℕ). bytes_high_first k (high_value bs) ≡ bs) size (high-back bs whole)) bytes x fits e

pub number_again : (w x : ℕ) (rest : List ℕ) → x < 2 ^ w → number_at w (bytes_high_first (byte_count w) x ++ rest) ≡ Some (x, rest)
number_again w x rest lt =
    sized_again high_value (byte_count w) (2 ^ w) (bytes_high_first (byte_count w)) x rest (length-high (byte_count w) x)
    (high-again (byte_count w) x ∙ mod-eq_of_lt (held w x lt)) lt

-- a number that may be any number of its bytes
pub number-there : (w k : ℕ) (bytes : List ℕ) → IsBytes bytes → w ≡ 8 * k → k ≤ length bytes
    → number_at w bytes ≡ Some (high_value (take k bytes), drop k bytes)
unfolding sized_at
number-there w k bytes fits e l =
    let size : byte_count w ≡ k = omega arith in
    let long : ltb (length bytes) k ≡ false = le-ltb (length bytes) k l in
    let small = high-small (take k bytes) (IsBytes-take k bytes fits) in
    let front : length (take k bytes) ≡ k = omega (arith, length-take k bytes) in
    let all : 2 ^ w ≡ 256 ^ k = ap (λ n. 2 ^ n) e ∙ eights k in
    let below : high_value (take k bytes) < 2 ^ w = subst (λ n. high_value (take k bytes) < n) (ap (λ n. 256 ^ n) front ∙ sym all) small in
    rw (size, long, lt-ltb (high_value (take k bytes)) (2 ^ w) below) refl

pub number-short : (w : ℕ) (bytes : List ℕ) → length bytes < byte_count w → number_at w bytes ≡ None
unfolding sized_at
number-short w bytes l = rw (lt-ltb (length bytes) (byte_count w) l) refl
