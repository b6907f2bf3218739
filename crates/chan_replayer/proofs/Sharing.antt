-- Clocks that stand at the places of channels.
use Rattle.std.proofs.Common.{◌≡◌, ◌≢◌, ◌⊎◌, ℕ, zero, suc, ◌+◌, ◌*◌, ◌<◌, ◌≤◌, List, [], ◌∷◌, ◌++◌, inl, inr}
use Rattle.std.proofs.Common.{length, take, drop, get_or, set, refl, ap, sym, subst, ◌∙◌, arith, ⊎_elim}
use Rattle.std.specs.List.{flat_map}
use Rattle.std.proofs.Math.Nat.{mul-le-mul_left}
use Rattle.std.proofs.lemmas.Bool.{cases_lt}
use Rattle.std.proofs.lemmas.Grind.{same_number_lists}
use Rattle.std.proofs.lemmas.List.{drop-drop, drop_all, drop_at, take_all, get_or-drop, get_or-take, length-append, length-drop, length-set, length-take-le, nil_from_length, take-append-drop, take_at, get_or-set_same, get_or-set_other}
use Rattle.chan_replayer.specs.Needs.{clock_at, all_clocks, AreUsers, AreShared}

-- ---- where a clock stands
pub clock-within : (n c : ℕ) → c < n → n * c + n ≤ n * n
clock-within n c l =
    let le : c + 1 ≤ n = omega (arith, l) in
    let most = mul-le-mul_left n le in
    omega (arith, most)

-- two clocks stand apart
pub apart : (n c d e : ℕ) → d ≢ c → e < n → (n * d + e < n * c) ⊎ (n * c + n ≤ n * d + e)
apart n c d e ne l = ⊎_elim
    (λ (b : d < c). (let le : d + 1 ≤ c = omega (arith, b) in let m = mul-le-mul_left n le in inl (omega (arith, m, l))))
    (λ (b : c ≤ d). (let le : c + 1 ≤ d = omega (arith, b, ne) in let m = mul-le-mul_left n le in inr (omega (arith, m))))
    (cases_lt d c)

pub clock-long : (n : ℕ) (clocks : List ℕ) (c : ℕ) → length clocks ≡ n * n → c < n → length (clock_at n clocks c) ≡ n
clock-long n clocks c long l =
    let w = clock-within n c l in
    let d = length-drop (n * c) clocks in
    length-take-le n (drop (n * c) clocks) (omega (arith, w, d, long))

-- there is none behind the last
no-clock : (n : ℕ) (clocks : List ℕ) (c : ℕ) → length clocks ≡ n * n → n ≤ c → clock_at n clocks c ≡ []
no-clock n clocks c long l =
    let past = mul-le-mul_left n l in
    ap (take n) (drop_all (n * c) clocks (omega (arith, past, long))) ∙ take_all n [] (omega arith)

pub number-at : (n : ℕ) (clocks : List ℕ) (c d : ℕ) → d < n → get_or (clock_at n clocks c) d 0 ≡ get_or clocks (n * c + d) 0
number-at n clocks c d l = get_or-take n (drop (n * c) clocks) d 0 l ∙ get_or-drop (n * c) clocks d 0

-- a number that is written in a clock leaves those outside it
pub number-others : (xs old : List ℕ) (at n d y : ℕ) → d < n → ((i : ℕ) → (i < at) ⊎ (at + n ≤ i) → get_or xs i 0 ≡ get_or old i 0)
    → (i : ℕ) → (i < at) ⊎ (at + n ≤ i) → get_or (set xs (at + d) y) i 0 ≡ get_or old i 0
number-others xs old at n d y l so_far i side =
    get_or-set_other xs (at + d) i y 0 (λ e. ⊎_elim
    (λ (b : i < at). absurd (omega (arith, e, b)))
    (λ (b : at + n ≤ i). absurd (omega (arith, e, b, l)))
    side)
    ∙ so_far i side

-- clocks of which each number is one
pub same-clock : (n : ℕ) (xs ys : List ℕ) (c d : ℕ) → length xs ≡ n * n → length ys ≡ n * n → c < n → d < n
    → ((e : ℕ) → e < n → get_or xs (n * c + e) 0 ≡ get_or ys (n * d + e) 0) → clock_at n xs c ≡ clock_at n ys d
same-clock n xs ys c d lx ly lc ld same =
    let a = clock-long n xs c lx lc in
    let b = clock-long n ys d ly ld in
    same_number_lists (clock_at n xs c) (clock_at n ys d) (omega (arith, a, b)) (λ e l.
    (let m : e < n = omega (arith, l, a) in number-at n xs c e m ∙ same e m ∙ sym (number-at n ys d e m)))

-- lists of as many clocks of which each clock is one
clocks-from : (n k : ℕ) (xs ys : List ℕ) → length xs ≡ n * k → length ys ≡ n * k → ((c : ℕ) → c < k → clock_at n xs c ≡ clock_at n ys c) → xs ≡ ys
clocks-from n zero xs ys lx ly same = nil_from_length xs (omega (arith, lx)) ∙ sym (nil_from_length ys (omega (arith, ly)))
clocks-from n (suc k) xs ys lx ly same =
    let none : n * 0 ≡ 0 = omega arith in
    let next : (c : ℕ) → n + n * c ≡ n * suc c = λ c. omega arith in
    let front : take n xs ≡ take n ys =
    ap (λ i. take n (drop i xs)) (sym none) ∙ same 0 (omega arith) ∙ ap (λ i. take n (drop i ys)) none in
    let a = length-drop n xs in
    let b = length-drop n ys in
    let back : drop n xs ≡ drop n ys = clocks-from n k (drop n xs) (drop n ys) (let e = next k in omega (arith, a, lx, e))
    (let e = next k in omega (arith, b, ly, e)) (λ c l.
    ap (take n) (drop-drop (n * c) n xs) ∙ ap (λ i. take n (drop i xs)) (next c) ∙ same (suc c) (omega (arith, l))
    ∙ ap (λ i. take n (drop i ys)) (sym (next c)) ∙ ap (take n) (sym (drop-drop (n * c) n ys))) in
    sym (take-append-drop n xs) ∙ ap (λ zs. zs ++ drop n xs) front ∙ ap (λ zs. take n ys ++ zs) back ∙ take-append-drop n ys

pub same-clocks : (n : ℕ) (xs ys : List ℕ) → length xs ≡ n * n → length ys ≡ n * n → ((c : ℕ) → c < n → clock_at n xs c ≡ clock_at n ys c) → xs ≡ ys
same-clocks n xs ys = clocks-from n n xs ys

-- ---- of lists of pieces that are as long
pieces-long : (n : ℕ) (f : ℕ → List ℕ) (xs : List ℕ) → ((i : ℕ) → i < length xs → length (f (get_or xs i 0)) ≡ n) → length (flat_map f xs) ≡ n * length xs
pieces-long n f [] all = omega arith
pieces-long n f (x ∷ xs) all =
    let a = length-append (f x) (flat_map f xs) in
    let b = all 0 (omega arith) in
    let c = pieces-long n f xs (λ i l. all (suc i) (omega (arith, l))) in
    omega (arith, a, b, c)

piece-at : (n : ℕ) (f : ℕ → List ℕ) (xs : List ℕ) (c : ℕ) → ((i : ℕ) → i < length xs → length (f (get_or xs i 0)) ≡ n) → c < length xs
    → take n (drop (n * c) (flat_map f xs)) ≡ f (get_or xs c 0)
piece-at n f [] c all l = absurd (omega (arith, l))
piece-at n f (x ∷ xs) zero all l =
    let none : n * 0 ≡ 0 = omega arith in
    ap (λ i. take n (drop i (f x ++ flat_map f xs))) none ∙ take_at (f x) (flat_map f xs) n (all 0 (omega arith))
piece-at n f (x ∷ xs) (suc c) all l =
    let next : n * suc c ≡ n + n * c = omega arith in
    ap (λ i. take n (drop i (f x ++ flat_map f xs))) next ∙ ap (take n) (sym (drop-drop (n * c) n (f x ++ flat_map f xs)))
    ∙ ap (λ ys. take n (drop (n * c) ys)) (drop_at (f x) (flat_map f xs) n (all 0 (omega arith)))
    ∙ piece-at n f xs c (λ i m. all (suc i) (omega (arith, m))) (omega (arith, l))

-- ---- the clocks of all channels
module _ (places users clocks : List ℕ) (are : AreShared places users clocks) where
  each-long : (c : ℕ) → c < length places → length (clock_at (length places) clocks (get_or places c 0)) ≡ length places
  each-long c l = clock-long (length places) clocks (get_or places c 0) are.long (are.used.within c l)

  pub all-long : length (all_clocks places clocks) ≡ length places * length places
  all-long = pieces-long (length places) (clock_at (length places) clocks) places each-long

  pub clock-of : (c : ℕ) → c < length places → clock_at (length places) (all_clocks places clocks) c ≡ clock_at (length places) clocks (get_or places c 0)
  clock-of c l = piece-at (length places) (clock_at (length places) clocks) places c each-long l

-- ---- as many channels as a clock has numbers
square-less : (a b : ℕ) → a < b → a * a < b * b
square-less a b l =
    let p : a + 1 ≤ b = omega (arith, l) in
    let q : a ≤ b = omega (arith, l) in
    let x = mul-le-mul_left b p in
    let y = mul-le-mul_left a q in
    omega (arith, x, y, l)

pub same-side : (a b : ℕ) → a * a ≡ b * b → a ≡ b
same-side a b e = ⊎_elim
    (λ (l : a < b). absurd (let s = square-less a b l in omega (arith, s, e)))
    (λ (l : b ≤ a). ⊎_elim
    (λ (m : b < a). absurd (let s = square-less b a m in omega (arith, s, e)))
    (λ (m : a ≤ b). omega (arith, l, m))
    (cases_lt b a))
    (cases_lt a b)

-- what contracts see of shared clocks
module _ (places users clocks needs : List ℕ) (n : ℕ) (are : AreShared places users clocks) (view : all_clocks places clocks ≡ needs)
    (long : length needs ≡ n * n) where
  pub side-is : length places ≡ n
  side-is = same-side (length places) n (sym (all-long places users clocks are) ∙ ap length view ∙ long)

  pub place-within : (c : ℕ) → c < n → get_or places c 0 < n
  place-within c l = let w = are.used.within c (omega (arith, l, side-is)) in omega (arith, w, side-is)

  pub clock-is : (c : ℕ) → c < n → clock_at n needs c ≡ clock_at n clocks (get_or places c 0)
  clock-is c l = subst (λ m. clock_at m needs c ≡ clock_at m clocks (get_or places c 0)) side-is
      (ap (λ xs. clock_at (length places) xs c) (sym view) ∙ clock-of places users clocks are c (omega (arith, l, side-is)))

-- channel c's clock stands at place p now, and the others' as before
module _ (places users clocks needs new_users new_clocks : List ℕ) (n c p : ℕ) (are : AreShared places users clocks) (view : all_clocks places clocks ≡ needs)
    (long : length needs ≡ n * n) (there : c < n) (used : AreUsers (set places c p) new_users) (as_long : length new_clocks ≡ length clocks)
    (same : (d : ℕ) → d < n → d ≢ c → clock_at n new_clocks (get_or places d 0) ≡ clock_at n clocks (get_or places d 0)) where
  pub still-shared : AreShared (set places c p) new_users new_clocks
  still-shared = record {
    used = used;
    long = as_long ∙ are.long ∙ ap (λ m. m * m) (sym (length-set places c p));
  }

  new-side : length (set places c p) ≡ n
  new-side = length-set places c p ∙ side-is places users clocks needs n are view long

  pub new-long : length (all_clocks (set places c p) new_clocks) ≡ n * n
  new-long = all-long (set places c p) new_users new_clocks still-shared ∙ ap (λ m. m * m) new-side

  new-of : (d : ℕ) → d < n → clock_at n (all_clocks (set places c p) new_clocks) d ≡ clock_at n new_clocks (get_or (set places c p) d 0)
  new-of d l = clock-is (set places c p) new_users new_clocks (all_clocks (set places c p) new_clocks) n still-shared refl new-long d l

  pub new-here : clock_at n (all_clocks (set places c p) new_clocks) c ≡ clock_at n new_clocks p
  new-here = new-of c there ∙ ap (clock_at n new_clocks) (get_or-set_same places c p 0
      (let s = side-is places users clocks needs n are view long in omega (arith, there, s)))

  pub new-others : (d : ℕ) → d ≢ c → clock_at n (all_clocks (set places c p) new_clocks) d ≡ clock_at n needs d
  new-others d ne = ⊎_elim
      (λ (l : d < n). new-of d l ∙ ap (clock_at n new_clocks) (get_or-set_other places c d p 0 ne) ∙ same d l ne
      ∙ sym (clock-is places users clocks needs n are view long d l))
      (λ (l : n ≤ d). no-clock n (all_clocks (set places c p) new_clocks) d new-long l ∙ sym (no-clock n needs d long l))
      (cases_lt d n)

-- where each clock stands at its own place, contracts see the clocks as they stand
pub clocks-own : (n : ℕ) (places users clocks : List ℕ) → length places ≡ n → length clocks ≡ n * n → AreUsers places users
    → ((c : ℕ) → c < n → get_or places c 0 ≡ c) → all_clocks places clocks ≡ clocks
clocks-own n places users clocks many long used own =
    let are : AreShared places users clocks = record { used = used; long = long ∙ ap (λ m. m * m) (sym many) } in
    same-clocks (length places) (all_clocks places clocks) clocks (all-long places users clocks are) are.long (λ c l.
    clock-of places users clocks are c l ∙ ap (clock_at (length places) clocks) (own c (omega (arith, l, many))))
