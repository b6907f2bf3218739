-- One more line of each loop, and texts that are added one behind another.
use Rattle.std.proofs.Common.{◌≡◌, ℕ, zero, suc, ◌+◌, ◌<◌, ◌^◌, List, ◌++◌, ap, refl, sym, append_assoc, append-nil, ◌∙◌, arith}
use Rattle.std.specs.List.{flat_map, range_with_len}
use Rattle.sample_gen.specs.Sequence.{next, state, upper, drawn}

-- a text, and one behind it
pub two : (o s t a b : List ℕ) → s ≡ o ++ a → t ≡ s ++ b → t ≡ o ++ (a ++ b)
two o s t a b first second = second ∙ ap (λ x. x ++ b) first ∙ append_assoc o a b

range_next : (f : ℕ → List ℕ) (a n : ℕ) → flat_map f (range_with_len a n) ++ f (a + n) ≡ flat_map f (range_with_len a (suc n))
range_next f a zero =
    let e : a + 0 ≡ a = omega arith in
    ap f e ∙ sym (append-nil (f a))
range_next f a (suc n) =
    let e : a + suc n ≡ a + 1 + n = omega arith in
    append_assoc (f a) (flat_map f (range_with_len (a + 1) n)) (f (a + suc n))
    ∙ ap (λ x. f a ++ (flat_map f (range_with_len (a + 1) n) ++ f x)) e
    ∙ ap (λ x. f a ++ x) (range_next f (a + 1) n)

-- a loop has added the pieces of n numbers from a on, and adds that of i
pub piece_more : (f : ℕ → List ℕ) (a n m i : ℕ) (base old new : List ℕ) → i ≡ a + n → m ≡ n + 1
    → old ≡ base ++ flat_map f (range_with_len a n) → new ≡ old ++ f i → new ≡ base ++ flat_map f (range_with_len a m)
piece_more f a n m i base old new at more before push =
    let e : suc n ≡ m = omega (arith, more) in
    two base old new (flat_map f (range_with_len a n)) (f i) before push
    ∙ ap (λ x. base ++ (flat_map f (range_with_len a n) ++ f x)) at
    ∙ ap (λ x. base ++ x) (range_next f a n)
    ∙ ap (λ x. base ++ flat_map f (range_with_len a x)) e

pub next_small : (x : ℕ) → next x < 2 ^ 32
next_small x = omega arith

-- where the sequence stands behind n draws
pub state_more : (s n x y : ℕ) → x ≡ state s n → y ≡ next x → y ≡ state s (n + 1)
state_more s n x y is goes =
    let e : suc n ≡ n + 1 = omega arith in
    goes ∙ ap next is ∙ ap (state s) e

pub drawn_more : (s n x y : ℕ) → x ≡ state s n → y ≡ upper (next x) → y ≡ drawn s (1 + n)
drawn_more s n x y is goes =
    let e : suc n ≡ 1 + n = omega arith in
    goes ∙ ap (λ z. upper (next z)) is ∙ ap (drawn s) e

-- the state i behind one that stands at n
pub state_behind : (s n i : ℕ) → state (state s n) i ≡ state s (n + i)
state_behind s n zero =
    let e : n ≡ n + 0 = omega arith in
    ap (state s) e
state_behind s n (suc i) =
    let e : suc (n + i) ≡ n + suc i = omega arith in
    ap next (state_behind s n i) ∙ ap (state s) e

-- numbers drawn behind state n
pub drawn_behind : (f : ℕ → List ℕ) (s n a k : ℕ) → flat_map (λ i. f (drawn (state s n) i)) (range_with_len a k)
    ≡ flat_map (λ i. f (drawn s (n + i))) (range_with_len a k)
drawn_behind f s n a zero = refl
drawn_behind f s n a (suc k) =
    ap (λ x. f (upper x) ++ flat_map (λ i. f (drawn (state s n) i)) (range_with_len (a + 1) k)) (state_behind s n a)
    ∙ ap (λ x. f (drawn s (n + a)) ++ x) (drawn_behind f s n (a + 1) k)
