-- The bytes of both masks, and what stands behind the head of a packet.
use Rattle.std.proofs.Common.{◌≡◌, ℕ, ◌+◌, ◌*◌, Bool, true, false, List, length, get_or, take, drop, eqb, arith, ap, sym, subst, ◌∙◌}
use Rattle.std.proofs.Math.Seq.{drop-drop}
use Rattle.std.proofs.lemmas.List.{drop-take, take-take}
use Rattle.vec_clock.specs.trace_model.Length.{mask_len}
use Rattle.std.specs.Cmp.Lexicographic.{same_text}
use Rattle.std.specs.List.{starts_with}
use Rattle.trace_code.specs.Heads.{AreMasks, IsHead}
use Rattle.trace_code.specs.PacketReading.{low_value}

-- what stands behind the head
pub behind-head : (m : ℕ) (rest : List ℕ) → drop (3 + 2 * m) rest ≡ drop m (drop m (drop 3 rest))
behind-head m rest =
    let e : 3 + 2 * m ≡ 3 + (m + m) = omega arith in
    ap (λ k. drop k rest) e ∙ sym (drop-drop (m + m) 3 rest) ∙ sym (drop-drop m m (drop 3 rest))

-- both masks, out of the bytes that they take
first-mask : (m : ℕ) (bytes : List ℕ) → take m (take (2 * m) bytes) ≡ take m bytes
first-mask m bytes = take-take m (2 * m) bytes (omega arith)

second-mask : (m : ℕ) (bytes : List ℕ) → drop m (take (2 * m) bytes) ≡ take m (drop m bytes)
second-mask m bytes =
    let e : 2 * m ≡ m + m = omega arith in
    ap (λ k. drop m (take k bytes)) e ∙ drop-take m m bytes

-- masks are told by the bytes that they take
pub masks-by : (n starts ends : ℕ) (bytes : List ℕ) → starts ≡ low_value (take (mask_len n) (take (2 * mask_len n) bytes))
    → ends ≡ low_value (drop (mask_len n) (take (2 * mask_len n) bytes)) → AreMasks n starts ends bytes
masks-by n starts ends bytes s e = record {
  starts_are = s ∙ ap low_value (first-mask (mask_len n) bytes);
  ends_are = e ∙ ap low_value (second-mask (mask_len n) bytes);
}

pub masks-same : (n starts ends : ℕ) (xs ys : List ℕ) → AreMasks n starts ends xs → take (2 * mask_len n) xs ≡ take (2 * mask_len n) ys
    → AreMasks n starts ends ys
masks-same n starts ends xs ys are same =
    masks-by n starts ends ys
    (are.starts_are ∙ ap low_value (sym (first-mask (mask_len n) xs)) ∙ ap (λ bs. low_value (take (mask_len n) bs)) same)
    (are.ends_are ∙ ap low_value (sym (second-mask (mask_len n) xs)) ∙ ap (λ bs. low_value (drop (mask_len n) bs)) same)

-- a reset
pub reset-head : (n : ℕ) (reset : Bool) (starts ends : ℕ) (rest : List ℕ) → reset ≡ true → starts ≡ 0 → ends ≡ 0 → get_or rest 0 0 ≡ 2
    → IsHead n reset starts ends rest
reset-head n reset starts ends rest r s e tag = subst (λ b. IsHead n b starts ends rest) (sym r) (record { tag = tag; masks = (s, e) })

-- masks that are read out of the bytes of both, which stand in front of these
pub read-by : (n m starts ends : ℕ) (bytes whole masks a b : List ℕ) → m ≡ mask_len n → whole ≡ bytes → masks ≡ take (2 * m) whole
    → a ≡ take m masks → b ≡ drop m masks → starts ≡ low_value a → ends ≡ low_value b → AreMasks n starts ends bytes
read-by n m starts ends bytes whole masks a b e w is f s l r =
    let from : masks ≡ take (2 * mask_len n) bytes = is ∙ ap (λ k. take (2 * k) whole) e ∙ ap (take (2 * mask_len n)) w in
    masks-by n starts ends bytes
    (l ∙ ap low_value (f ∙ ap (λ k. take k masks) e ∙ ap (take (mask_len n)) from))
    (r ∙ ap low_value (s ∙ ap (λ k. drop k masks) e ∙ ap (drop (mask_len n)) from))

-- a packet with events whose masks are the same bytes
pub of-head : (n m : ℕ) (reset : Bool) (starts ends : ℕ) (rest xs piece masks : List ℕ) → reset ≡ false → get_or rest 0 0 ≡ 1
    → AreMasks n starts ends masks → m ≡ mask_len n → piece ≡ take (2 * m) masks → length piece ≡ 2 * m → xs ≡ drop 3 rest
    → true ≡ starts_with eqb xs piece → IsHead n reset starts ends rest
of-head n m reset starts ends rest xs piece masks row tag are e p l x same =
    let text = same_text piece (take (length piece) xs) same in
    let front : take (2 * mask_len n) masks ≡ take (2 * mask_len n) (drop 3 rest) =
    ap (λ k. take (2 * k) masks) (sym e) ∙ sym p ∙ text ∙ ap (λ k. take k xs) l ∙ ap (λ k. take (2 * k) xs) e ∙ ap (take (2 * mask_len n)) x in
    subst (λ b. IsHead n b starts ends rest) (sym row)
    (record { tag = tag; masks = masks-same n starts ends masks (drop 3 rest) are front })
