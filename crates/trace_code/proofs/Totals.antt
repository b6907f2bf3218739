-- Sums of the sizes of the channels that a mask names.
use Rattle.std.proofs.Common.{◌≡◌, ℕ, zero, suc, ◌+◌, ◌<◌, ◌≤◌, List, [], ◌∷◌, Some, length, get_or, slice_get, refl, ap, sym}
use Rattle.std.proofs.Common.{◌≢◌, ◌∙◌, arith, add-zero, zero-add, cond, eqb}
use Rattle.std.specs.Int.{bit_at}
use Rattle.vec_clock.specs.vidi_bits.Number.{has}
use Rattle.vec_clock.specs.trace_model.Mask.{IsLowest}
use Rattle.vec_clock.specs.trace_model.Length.{sizes_under}
use Rattle.std.proofs.lemmas.Option.{same_Some, slice_get-get_or}
use Rattle.vec_clock.proofs.trace_model_lemmas.LengthLemmas.{total, total-cons, total-same}

none : (f : ℕ × ℕ → ℕ) (n : ℕ) (sizes : List ℕ) → ((c size : ℕ) → n ≤ c → c < n + length sizes → f (c, size) ≡ 0) → total f n sizes ≡ 0
none f n [] h = refl
none f n (size ∷ sizes) h =
    let rest : total f (n + 1) sizes ≡ 0 = none f (n + 1) sizes (λ c b l m. h c b (omega arith) (omega arith)) in
    let here : f (n, size) ≡ 0 = h n size (omega arith) (omega arith) in
    rw (total-cons f n size sizes) (omega arith)

-- two functions that agree on all channels but one
but-one : (f g : ℕ × ℕ → ℕ) (n : ℕ) (sizes : List ℕ) (i size : ℕ) → slice_get sizes i ≡ Some size
    → ((c s : ℕ) → c ≢ n + i → f (c, s) ≡ g (c, s)) → f (n + i, size) ≡ size → g (n + i, size) ≡ 0
    → total f n sizes ≡ size + total g n sizes
but-one f g n [] i size at h a b = absurd (cc)
but-one f g n (x ∷ xs) zero size at h a b =
    let same : x ≡ size = same_Some x size at in
    let there : n + 0 ≡ n = add-zero n in
    let first : f (n, x) ≡ size = ap (λ y. f (n, y)) same ∙ ap (λ c. f (c, size)) (sym there) ∙ a in
    let second : g (n, x) ≡ 0 = ap (λ y. g (n, y)) same ∙ ap (λ c. g (c, size)) (sym there) ∙ b in
    let rest : total f (n + 1) xs ≡ total g (n + 1) xs =
    total-same f g (n + 1) xs (λ c s l m. h c s (λ e. absurd (omega (arith, l, e)))) in
    rw (total-cons f n x xs, total-cons g n x xs) (omega (arith, first, second, rest))
but-one f g n (x ∷ xs) (suc i) size at h a b =
    let there : n + 1 + i ≡ n + suc i = omega arith in
    let here : f (n, x) ≡ g (n, x) = h n x (λ e. absurd (omega (arith, e))) in
    let rest : total f (n + 1) xs ≡ size + total g (n + 1) xs =
    but-one f g (n + 1) xs i size at (λ c s ne. h c s (λ e. ne (e ∙ sym there)))
    (ap (λ c. f (c, size)) there ∙ a) (ap (λ c. g (c, size)) there ∙ b) in
    rw (total-cons f n x xs, total-cons g n x xs) (omega (arith, here, rest))

pub under-none : (mask : ℕ) (sizes : List ℕ) → ((c : ℕ) → c < length sizes → bit_at mask c ≡ 0) → sizes_under mask sizes ≡ 0
under-none mask sizes h =
    none (λ d. cond (has mask d.0) d.1 0) 0 sizes
    (λ c size l m. ap (λ b. cond (eqb b 1) size 0) (h c (omega (arith, m))))

pub under-more : (mask c others : ℕ) (sizes : List ℕ) → IsLowest mask c others → c < length sizes
    → sizes_under mask sizes ≡ get_or sizes c 0 + sizes_under others sizes
under-more mask c others sizes is l =
    but-one (λ d. cond (has mask d.0) d.1 0) (λ d. cond (has others d.0) d.1 0) 0 sizes c (get_or sizes c 0) (slice_get-get_or sizes c 0 l)
    (λ d s ne. ap (λ b. cond (eqb b 1) s 0) (sym (is.same d (λ e. ne (e ∙ sym (zero-add c))))))
    (ap (λ k. cond (has mask k) (get_or sizes c 0) 0) (zero-add c) ∙ ap (λ b. cond (eqb b 1) (get_or sizes c 0) 0) is.named)
    (ap (λ k. cond (has others k) (get_or sizes c 0) 0) (zero-add c) ∙ ap (λ b. cond (eqb b 1) (get_or sizes c 0) 0) is.without)
