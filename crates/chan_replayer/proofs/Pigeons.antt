-- Where two of so many share a place, one of as many places is free.
use Rattle.std.proofs.Common.{◌≡◌, ◌≢◌, ℕ, zero, suc, ◌+◌, ◌-◌, ◌<◌, ◌≤◌, cond, ltb, ap, sym, ◌∙◌, arith, ⊎_elim}
use Rattle.std.proofs.lemmas.Bool.{cases_eq, cases_lt, lt-ltb, le-ltb}

-- the numbers but `out`, in their order
skip : ℕ → ℕ → ℕ
skip out k = cond (ltb k out) k (k + 1)

skip-low : (out k : ℕ) → k < out → skip out k ≡ k
unfolding skip
skip-low out k l = ap (λ b. cond b k (k + 1)) (lt-ltb k out l)

skip-high : (out k : ℕ) → out ≤ k → skip out k ≡ k + 1
unfolding skip
skip-high out k l = ap (λ b. cond b k (k + 1)) (le-ltb k out l)

-- another than `out` of m + 1 is one of m of them
found : (f : ℕ → ℕ) (out m place k : ℕ) → out < m + 1 → k < m + 1 → k ≢ out → f k ≡ place → (j : ℕ) × (j < m) × (f (skip out j) ≡ place)
found f out m place k lo l ne e = ⊎_elim {C = (j : ℕ) × (j < m) × (f (skip out j) ≡ place)}
    (λ (low : k < out). (k, omega (arith, low, lo), ap f (skip-low out k low) ∙ e))
    (λ (high : out ≤ k).
    let back : k - 1 + 1 ≡ k = omega (arith, high, ne) in
    (k - 1, omega (arith, high, ne, l), ap f (skip-high out (k - 1) (omega (arith, high, ne)) ∙ back) ∙ e))
    (cases_lt k out)

-- what so many have is no more than so many
few : (n m : ℕ) (f : ℕ → ℕ) → ((place : ℕ) → place < n → (k : ℕ) × (k < m) × (f k ≡ place)) → n ≤ m
few zero m f all = omega arith
few (suc n) m f all =
    let (out, within, is) = all n (omega arith) in
    let one : m - 1 + 1 ≡ m = omega (arith, within) in
    let rest : n ≤ m - 1 = few n (m - 1) (λ j. f (skip out j)) (λ place l.
    (let (k, b, e) = all place (omega (arith, l)) in
    found f out (m - 1) place k (omega (arith, within)) (omega (arith, b)) (λ same. absurd (let s = ap f same in omega (arith, s, e, is, l))) e)) in
    omega (arith, rest, within)

pub not-all : (n c d : ℕ) (f : ℕ → ℕ) → c < n → d < n → d ≢ c → f d ≡ f c → ((place : ℕ) → place < n → (k : ℕ) × (k < n) × (f k ≡ place)) → ⊥
not-all n c d f lc ld ne same all =
    let rest : n ≤ n - 1 = few n (n - 1) (λ j. f (skip c j)) (λ place l.
    (let (k, b, e) = all place l in
    ⊎_elim {C = (j : ℕ) × (j < n - 1) × (f (skip c j) ≡ place)}
    (λ (at : k ≡ c). found f c (n - 1) place d (omega (arith, lc)) (omega (arith, ld)) ne (same ∙ sym (ap f at) ∙ e))
    (λ (off : k ≡ c → ⊥). found f c (n - 1) place k (omega (arith, lc)) (omega (arith, b)) off e)
    (cases_eq k c))) in
    omega (arith, rest, lc)
