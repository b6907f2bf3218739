-- Where packets stand, and lists that a loop makes.
use Rattle.std.proofs.Common.{◌≡◌, ℕ, suc, ◌+◌, ◌<◌, ◌≤◌, ◌^◌, true, List, [], ◌∷◌, ◌++◌, length, get_or, take, slice_get}
use Rattle.std.proofs.Common.{ap, sym, ◌∙◌, ⊎_elim, arith}
use Rattle.std.specs.List.{flat_map, enumerate_from}
use Rattle.std.proofs.lemmas.List.{append-nil, length-take-le, take_more}
use Rattle.std.proofs.lemmas.List.Concat.{flat_map-append}
use Rattle.std.proofs.lemmas.Bool.{cases_lt}
use Rattle.std.proofs.lemmas.Nat.Bits.{bit_at_above}
use Rattle.trace_model.specs.vidi_bits.Number.{has}
use Rattle.trace_model.specs.declared.packet.Packet.{Packet}
use Rattle.trace_model.proofs.ContentsLemmas.{enumerate-append}
use Rattle.trace_model.proofs.MaskLemmas.{bit-from-has}

pub get-behind : {X : Type 0} (A xs : List X) (i : ℕ) → slice_get (A ++ xs) (length A + i) ≡ slice_get xs i
get-behind [] xs i = ap (slice_get xs) (let z : 0 + i ≡ i = omega arith in z)
get-behind (a ∷ A) xs i = ap (slice_get (a ∷ (A ++ xs))) (let z : suc (length A) + i ≡ suc (length A + i) = omega arith in z) ∙ get-behind A xs i

-- one more packet is placed
pub placed-more : (F : ℕ × Packet → List Packet) (xs : List Packet) (i : ℕ) (x : Packet) → i < length xs → x ≡ get_or xs i x
    → flat_map F (enumerate_from 0 (take i xs)) ++ F (i, x) ≡ flat_map F (enumerate_from 0 (take (i + 1) xs))
placed-more F xs i x l e =
    let here : take (i + 1) xs ≡ take i xs ++ x ∷ [] = take_more xs i x l ∙ ap (λ y. take i xs ++ y ∷ []) (sym e) in
    let place : 0 + length (take i xs) ≡ i = omega (arith, length-take-le i xs (omega (arith, l))) in
    sym (ap (λ ys. flat_map F (enumerate_from 0 ys)) here
    ∙ ap (flat_map F) (enumerate-append 0 (take i xs) (x ∷ []))
    ∙ flat_map-append F (enumerate_from 0 (take i xs)) (enumerate_from (0 + length (take i xs)) (x ∷ []))
    ∙ ap (λ n. flat_map F (enumerate_from 0 (take i xs)) ++ (F (n, x) ++ [])) place
    ∙ ap (λ ys. flat_map F (enumerate_from 0 (take i xs)) ++ ys) (append-nil (F (i, x))))

-- a mask of 128 bits names no channel past them
pub below_width : (mask c : ℕ) → mask < 2 ^ 128 → has mask c ≡ true → c < 128
below_width mask c l h = ⊎_elim (λ (k : c < 128). k)
    (λ (k : 128 ≤ c). let a = bit-from-has mask c h in let b = bit_at_above mask 128 c l k in absurd (omega (arith, a, b)))
    (cases_lt c 128)
