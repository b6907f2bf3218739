-- The contents of all channels as one list: each channel's can be given, and together they fix the list. Masks by their bits.
use Rattle.std.proofs.Common.{◌≡◌, ℕ, zero, suc, ◌+◌, ◌*◌, ◌-◌, ◌<◌, ◌≤◌, ◌^◌, Bool, true, false, cond, eqb, List, [], ◌∷◌, ◌++◌}
use Rattle.std.proofs.Common.{Some, length, take, drop, replicate, slice_get, ⊎_elim, refl, ap, sym, subst, ◌∙◌, arith, add-one}
use Rattle.std.specs.Int.{bit_at}
use Rattle.std.proofs.lemmas.Bool.{cases_lt, eqb-true, eqb-false, eq-eqb}
use Rattle.std.proofs.lemmas.List.{length-append, take-append-drop, take_at, drop_at, drop-drop, nil_from_length}
use Rattle.std.proofs.lemmas.Nat.Bits.{bit_at_ones, bit_at_cat_low, bit_at_cat_high, bit_at-lt, same_from_bits}
use Rattle.std.proofs.lemmas.Nat.{pow_pos}
use Rattle.chan_map.specs.vidi_bits.Number.{has}
use Rattle.chan_map.proofs.vidi_bits_lemmas.BitLemmas.{has-above}
use Rattle.chan_map.specs.trace_model.declared.channel.Channel.{Channel}
use Rattle.chan_map.specs.trace_model.Packet.{Fit, widths_of}
use Rattle.chan_map.specs.trace_model.Row.{all_widths, content_at}
use Rattle.run_model.specs.Building.{mask_of, joined}
use Rattle.chan_map.proofs.trace_model_lemmas.ContentsLemmas.{fit-append, fit-front, fit-length, fit-rest}

-- ---- masks

pub has-all : (n c : ℕ) → c < n → has (2 ^ n - 1) c ≡ true
has-all n c l = eq-eqb (bit_at (2 ^ n - 1) c) 1 (bit_at_ones n c l)

tells : (x : ℕ) → x < 2 → (b : Bool) → eqb x 1 ≡ b → x ≡ cond b 1 0
tells x l true h = eqb-true x 1 h
tells x l false h = let n = eqb-false x 1 h in omega arith

bit-is : (mask c : ℕ) (b : Bool) → has mask c ≡ b → bit_at mask c ≡ cond b 1 0
bit-is mask c b h = tells (bit_at mask c) (bit_at-lt mask c) b h

pub same-masks : (a b : ℕ) → ((c : ℕ) → has a c ≡ has b c) → a ≡ b
same-masks a b h = same_from_bits a b (λ c. bit-is a c (has b c) (h c) ∙ sym (bit-is b c (has b c) refl))

-- masks of n channels that agree on them
pub same-masks_below : (n a b : ℕ) → a < 2 ^ n → b < 2 ^ n → ((c : ℕ) → c < n → has a c ≡ has b c) → a ≡ b
same-masks_below n a b la lb h = same-masks a b (λ c. ⊎_elim
    (λ (l : c < n). h c l)
    (λ (l : n ≤ c). has-above a n c la l ∙ sym (has-above b n c lb l))
    (cases_lt c n))

mask-step : (b : Bool) (n m : ℕ) → m < 2 ^ n → cond b 1 0 * 2 ^ n + m < 2 ^ suc n
mask-step true n m l = let p : 2 ^ suc n ≡ 2 ^ n + 2 ^ n = omega arith in omega arith
mask-step false n m l = let p : 2 ^ suc n ≡ 2 ^ n + 2 ^ n = omega arith in omega arith

pub mask-below : (f : ℕ → Bool) (n : ℕ) → mask_of f n < 2 ^ n
mask-below f zero = omega arith
mask-below f (suc n) = mask-step (f n) n (mask_of f n) (mask-below f n)

bit-one : (b : Bool) → bit_at (cond b 1 0) 0 ≡ cond b 1 0
bit-one true = refl
bit-one false = refl

flag-test : (b : Bool) → eqb (cond b 1 0) 1 ≡ b
flag-test true = refl
flag-test false = refl

pub has-mask : (f : ℕ → Bool) (n c : ℕ) → c < n → has (mask_of f n) c ≡ f c
has-mask f zero c l = absurd (omega arith)
has-mask f (suc n) c l = ⊎_elim
    (λ (m : c < n). ap (λ x. eqb x 1) (bit_at_cat_low (cond (f n) 1 0) n (mask_of f n) c m) ∙ has-mask f n c m)
    (λ (m : n ≤ c).
    let e : c ≡ n = omega arith in
    let z : c - n ≡ 0 = omega arith in
    ap (λ x. eqb x 1) (bit_at_cat_high (cond (f n) 1 0) n (mask_of f n) c (mask-below f n) m
    ∙ ap (bit_at (cond (f n) 1 0)) z ∙ bit-one (f n)) ∙ flag-test (f n) ∙ ap f (sym e))
    (cases_lt c n)

-- ---- contents channel by channel
pub fit-joined_from : (f : ℕ → List ℕ) (k : ℕ) (cs : List Channel)
    → ((i j : ℕ) (x : Channel) → slice_get cs i ≡ Some x → j ≡ k + i → Fit x.widths (f j)) → Fit (all_widths cs) (joined f k cs)
fit-joined_from f k [] h = tt
fit-joined_from f k (x ∷ xs) h = fit-append x.widths (all_widths xs) (f k) (joined f (k + 1) xs) (h 0 k x refl (omega arith))
    (fit-joined_from f (k + 1) xs (λ i j y at e. h (suc i) j y at (omega (arith, e))))

content-first : (x : Channel) (xs : List Channel) (numbers : List ℕ) → content_at (x ∷ xs) numbers 0 ≡ take (length x.widths) numbers
content-first x xs numbers = refl

content-suc : (x : Channel) (xs : List Channel) (numbers : List ℕ) (c : ℕ)
    → content_at (x ∷ xs) numbers (suc c) ≡ content_at xs (drop (length x.widths) numbers) c
content-suc x xs numbers c =
    ap (λ n. take (length (widths_of (slice_get xs c))) (drop n numbers)) (length-append x.widths (all_widths (take c xs)))
    ∙ ap (take (length (widths_of (slice_get xs c)))) (sym (drop-drop (length (all_widths (take c xs))) (length x.widths) numbers))

pub content-joined_from : (f : ℕ → List ℕ) (k : ℕ) (cs : List Channel)
    → ((i j : ℕ) (x : Channel) → slice_get cs i ≡ Some x → j ≡ k + i → length (f j) ≡ length x.widths)
    → (c j : ℕ) (x : Channel) → slice_get cs c ≡ Some x → j ≡ k + c → content_at cs (joined f k cs) c ≡ f j
content-joined_from f k [] h c j x at e = absurd (cc)
content-joined_from f k (y ∷ ys) h zero j x at e =
    let k-is : k ≡ j = omega (arith, e) in
    take_at (f k) (joined f (k + 1) ys) (length y.widths) (h 0 k y refl (omega arith)) ∙ ap f k-is
content-joined_from f k (y ∷ ys) h (suc c) j x at e =
    content-suc y ys (f k ++ joined f (k + 1) ys) c
    ∙ ap (λ xs. content_at ys xs c) (drop_at (f k) (joined f (k + 1) ys) (length y.widths) (h 0 k y refl (omega arith)))
    ∙ content-joined_from f (k + 1) ys (λ i l z a p. h (suc i) l z a (omega (arith, p))) c j x at (omega (arith, e))

pub fit-joined : (f : ℕ → List ℕ) (cs : List Channel) → ((c : ℕ) (x : Channel) → slice_get cs c ≡ Some x → Fit x.widths (f c))
    → Fit (all_widths cs) (joined f 0 cs)
fit-joined f cs h = fit-joined_from f 0 cs (λ i j x at e. let j-is : i ≡ j = omega (arith, e)
    in subst (λ n. Fit x.widths (f n)) j-is (h i x at))

pub content-joined : (f : ℕ → List ℕ) (cs : List Channel) → ((c : ℕ) (x : Channel) → slice_get cs c ≡ Some x → Fit x.widths (f c))
    → (c : ℕ) (x : Channel) → slice_get cs c ≡ Some x → content_at cs (joined f 0 cs) c ≡ f c
content-joined f cs h c x at = content-joined_from f 0 cs
    (λ i j y a e. let j-is : i ≡ j = omega (arith, e) in sym (fit-length y.widths (f j) (subst (λ n. Fit y.widths (f n)) j-is (h i y a))))
    c c x at (omega arith)

-- two lists of contents that are the same channel by channel
pub same-contents : (cs : List Channel) (xs ys : List ℕ) → Fit (all_widths cs) xs → Fit (all_widths cs) ys
    → ((c : ℕ) (x : Channel) → slice_get cs c ≡ Some x → content_at cs xs c ≡ content_at cs ys c) → xs ≡ ys
same-contents [] xs ys f g h = nil_from_length xs (sym (fit-length [] xs f)) ∙ sym (nil_from_length ys (sym (fit-length [] ys g)))
same-contents (x ∷ rest) xs ys f g h =
    let w = length x.widths in
    let front : take w xs ≡ take w ys = h 0 x refl in
    let back : drop w xs ≡ drop w ys = same-contents rest (drop w xs) (drop w ys) (fit-rest x.widths (all_widths rest) xs f)
    (fit-rest x.widths (all_widths rest) ys g)
    (λ c y at. sym (content-suc x rest xs c) ∙ h (suc c) y at ∙ content-suc x rest ys c) in
    sym (take-append-drop w xs) ∙ ap (λ zs. zs ++ drop w xs) front ∙ ap (λ zs. take w ys ++ zs) back ∙ take-append-drop w ys

-- the content of a channel fits its ports
pub content-fits : (cs : List Channel) (xs : List ℕ) → Fit (all_widths cs) xs → (c : ℕ) (x : Channel) → slice_get cs c ≡ Some x
    → Fit x.widths (content_at cs xs c)
content-fits [] xs f c x at = absurd (cc)
content-fits (y ∷ ys) xs f zero x at =
    let same : y ≡ x = cc in
    subst (λ (z : Channel). Fit z.widths (take (length y.widths) xs)) same (fit-front y.widths (all_widths ys) xs f)
content-fits (y ∷ ys) xs f (suc c) x at = subst (Fit x.widths) (sym (content-suc y ys xs c))
    (content-fits ys (drop (length y.widths) xs) (fit-rest y.widths (all_widths ys) xs f) c x at)

-- zeros fit
pub fit-zeros : (widths : List ℕ) → Fit widths (replicate (length widths) 0)
fit-zeros [] = tt
fit-zeros (w ∷ ws) = (pow_pos w, fit-zeros ws)

pub mask-more : (f : ℕ → Bool) (c : ℕ) (up : Bool) (mask new : ℕ) → up ≡ f c → new ≡ cond up 1 0 * 2 ^ c + mask → mask ≡ mask_of f c
    → new ≡ mask_of f (c + 1)
mask-more f c up mask new u n m =
    n ∙ ap (λ b. cond b 1 0 * 2 ^ c + mask) u ∙ ap (λ k. cond (f c) 1 0 * 2 ^ c + k) m ∙ sym (ap (mask_of f) (add-one c))

pub same-mask : (f g : ℕ → Bool) (n : ℕ) → ((c : ℕ) → c < n → f c ≡ g c) → mask_of f n ≡ mask_of g n
same-mask f g zero h = refl
same-mask f g (suc n) h =
    ap (λ b. cond b 1 0 * 2 ^ n + mask_of f n) (h n (omega arith))
    ∙ ap (λ m. cond (g n) 1 0 * 2 ^ n + m) (same-mask f g n (λ c l. h c (omega (arith, l))))
