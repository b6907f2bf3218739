-- What a cycle puts in the store was reserved.
use Rattle.std.proofs.Common.{◌≡◌, ℕ, ◌+◌, ◌*◌, ◌<◌, ◌≤◌, ◌&&◌, ◌||◌, Bool, true, false, not, cond, List, [], ◌∷◌, length, refl, ap, ⊎_elim}
use Rattle.std.proofs.Common.{arith}
use Rattle.std.proofs.lemmas.Bool.{cases_eq}
use Rattle.room_ledger.specs.Reservation.{reservation}
use Rattle.trace_model.proofs.LengthLemmas.{total, total-cons}

-- one channel, which has its gate up, is in flight, starts and ends, or not: what it reserves afterwards, its content where it
-- starts, and H for each of its events, are at most what it reserved
pub pays : (h b : ℕ) (g f s e : Bool) → (s ≡ true → (g ≡ true) × (f ≡ false)) → (e ≡ true → (f || s) ≡ true) → (f ≡ true → g ≡ true)
    → cond (g && not e) (cond ((f || s) && not e) h (2 * h + b)) 0 + (cond s b 0 + (cond s h 0 + cond e h 0)) ≤ cond g
    (cond f h (2 * h + b)) 0
pays h b true true true e start end up = absurd (let x = (start refl).1 in cc)
pays h b true true false true start end up = omega arith
pays h b true true false false start end up = omega arith
pays h b true false true true start end up = omega arith
pays h b true false true false start end up = omega arith
pays h b true false false true start end up = absurd (let x = end refl in cc)
pays h b true false false false start end up = omega arith
pays h b false f true e start end up = absurd (let x = (start refl).0 in cc)
pays h b false true false e start end up = absurd (let x = up refl in cc)
pays h b false false false true start end up = absurd (let x = end refl in cc)
pays h b false false false false start end up = omega arith

-- what the channels reserve after a cycle with these starts and ends
abbrev after : ℕ → (ℕ → Bool) → (ℕ → Bool) → (ℕ → Bool) → (ℕ → Bool) → ℕ × ℕ → ℕ
after head up flies starts ends = reservation head (λ c. up c && not (ends c)) (λ c. (flies c || starts c) && not (ends c))

-- the contents of the starts, and H for each event
abbrev contents : (ℕ → Bool) → ℕ × ℕ → ℕ
contents starts c = cond (starts c.0) c.1 0

abbrev heads : ℕ → (ℕ → Bool) → (ℕ → Bool) → ℕ × ℕ → ℕ
heads head starts ends c = cond (starts c.0) head 0 + cond (ends c.0) head 0

-- what a cycle may do, by tests
pub record IsLawful (up flies starts ends : ℕ → Bool) : Type 0 where
  pub start : (c : ℕ) → starts c ≡ true → (up c ≡ true) × (flies c ≡ false)
  pub complete : (c : ℕ) → ends c ≡ true → (flies c || starts c) ≡ true
  pub within : (c : ℕ) → flies c ≡ true → up c ≡ true

pub pays-all : (head : ℕ) (up flies starts ends : ℕ → Bool) → IsLawful up flies starts ends → (n : ℕ) (sizes : List ℕ)
    → total (after head up flies starts ends) n sizes + (total (contents starts) n sizes + total (heads head starts ends) n sizes) ≤ total
    (reservation head up flies) n sizes
pays-all head up flies starts ends is n [] = omega arith
pays-all head up flies starts ends is n (b ∷ bs) =
    let rest : total (after head up flies starts ends) (n + 1) bs + (total (contents starts) (n + 1) bs
    + total (heads head starts ends) (n + 1) bs) ≤ total (reservation head up flies) (n + 1) bs =
    pays-all head up flies starts ends is (n + 1) bs in
    let here : after head up flies starts ends (n, b) + (contents starts (n, b) + heads head starts ends (n, b)) ≤ reservation head up flies
    (n, b) =
    pays head b (up n) (flies n) (starts n) (ends n) (is.start n) (is.complete n) (is.within n) in
    rw (
      total-cons (after head up flies starts ends) n b bs,
      total-cons (contents starts) n b bs,
      total-cons (heads head starts ends) n b bs,
      total-cons (reservation head up flies) n b bs,
    ) (omega arith)

-- where some channel has an event, there is H for it
one-head : (head : ℕ) (s e : Bool) → (s || e) ≡ true → head ≤ cond s head 0 + cond e head 0
one-head head true e h = omega arith
one-head head false true h = omega arith
one-head head false false h = absurd (cc)

some-head : (head : ℕ) (starts ends : ℕ → Bool) (n : ℕ) (sizes : List ℕ) (c : ℕ) → n ≤ c → c < n + length sizes → (starts c || ends c)
    ≡ true → head ≤ total (heads head starts ends) n sizes
some-head head starts ends n [] c l m h = absurd (omega arith)
some-head head starts ends n (b ∷ bs) c l m h = ⊎_elim
    (λ (e : c ≡ n).
    let here : head ≤ cond (starts c) head 0 + cond (ends c) head 0 = one-head head (starts c) (ends c) h in
    let same : cond (starts c) head 0 + cond (ends c) head 0 ≡ cond (starts n) head 0
    + cond (ends n) head 0 = ap (λ k. cond (starts k) head 0 + cond (ends k) head 0) e in
    rw (total-cons (heads head starts ends) n b bs) (omega arith))
    (λ (d : c ≡ n → ⊥).
    let rest : head ≤ total (heads head starts ends) (n + 1) bs = some-head head starts ends (n + 1) bs c (omega arith) (omega arith) h in
    rw (total-cons (heads head starts ends) n b bs) (omega arith))
    (cases_eq c n)

-- the packet of a cycle with an event fits into what the cycle frees
pub packet-fits : (head : ℕ) (up flies starts ends : ℕ → Bool) (sizes : List ℕ) (c : ℕ) → IsLawful up flies starts ends → c < length sizes
    → (starts c || ends c) ≡ true
    → total (after head up flies starts ends) 0 sizes + (head + total (contents starts) 0 sizes) ≤ total (reservation head up flies) 0 sizes
packet-fits head up flies starts ends sizes c is l h =
    let all = pays-all head up flies starts ends is 0 sizes in
    let one : head ≤ total (heads head starts ends) 0 sizes = some-head head starts ends 0 sizes c (omega arith) (omega arith) h in
    omega arith
