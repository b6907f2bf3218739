-- Sums of reservations: what they are at most, and what they are once gates have gone up.
use Rattle.std.proofs.Common.{◌≡◌, ℕ, zero, suc, ◌+◌, ◌*◌, ◌<◌, ◌≤◌, ◌^◌, ◌&&◌, Bool, true, false, not, cond, List, [], ◌∷◌, Some, None}
use Rattle.std.proofs.Common.{length, take, get_or, slice_get, sum_by, leb, refl, ap, sym, ◌∙◌, ⊎_elim, arith, zero-add, leb-true}
use Rattle.std.proofs.lemmas.List.{take_all}
use Rattle.std.proofs.lemmas.List.Sums.{sum_by-cons}
use Rattle.std.proofs.lemmas.Option.{same_Some, slice_get_cases}
use Rattle.trace_model.specs.vidi_bits.Number.{has}
use Rattle.trace_model.proofs.vidi_bits_lemmas.BitLemmas.{has-above}
use Rattle.trace_model.specs.Length.{head_len}
use Rattle.room_ledger.specs.Reservation.{whole, need, least, reservation, reserved, raised_below, permit_room, AreRaised}
use Rattle.trace_model.proofs.LengthLemmas.{total, total-cons, total-same}
use Rattle.room_ledger.proofs.Totals.{total-more}
use Rattle.room_ledger.proofs.Raising.{newly, RaisedFrom}

-- ---- the permit
pub none-room : (resets : Bool) → permit_room resets false ≡ 0
none-room true = refl
none-room false = refl

pub permit-le : (resets permit : Bool) → permit_room resets permit ≤ permit_room resets true
permit-le true true = omega arith
permit-le true false = omega arith
permit-le false permit = omega arith

pub least-is : (sizes : List ℕ) (resets : Bool) → least sizes resets ≡ need sizes + permit_room resets true
least-is sizes true = refl
least-is sizes false = omega arith

-- ---- at most the sum of all R_c
one-reservation : (head size : ℕ) (g f : Bool) → cond g (cond f head (2 * head + size)) 0 ≤ 2 * head + size
one-reservation head size true true = omega arith
one-reservation head size true false = omega arith
one-reservation head size false f = omega arith

pub reserved-need : (head : ℕ) (up flies : ℕ → Bool) (n : ℕ) (sizes : List ℕ)
    → total (reservation head up flies) n sizes ≤ sum_by (whole head) sizes
reserved-need head up flies n [] = omega arith
reserved-need head up flies n (size ∷ sizes) =
    let rest : total (reservation head up flies) (n + 1) sizes ≤ sum_by (whole head) sizes = reserved-need head up flies (n + 1) sizes in
    let here : reservation head up flies (n, size) ≤ whole head size = one-reservation head size (up n) (flies n) in
    rw (total-cons (reservation head up flies) n size sizes, sum_by-cons (whole head) size sizes) (omega arith)

-- a kept gate and a raised one are never one gate
one-each : (head size : ℕ) (g f u : Bool) → cond g (cond f head (2 * head + size)) 0 + cond (u && not g) (2 * head + size) 0 ≤ 2 * head
    + size
one-each head size true true true = omega arith
one-each head size true true false = omega arith
one-each head size true false true = omega arith
one-each head size true false false = omega arith
one-each head size false f true = omega arith
one-each head size false f false = omega arith

-- the reservations, the gates raised below channel n + c, and the R_c of that channel, whose gate wasn't kept
pub all-need : (head : ℕ) (kept flies up : ℕ → Bool) (n : ℕ) (sizes : List ℕ) (c size : ℕ) → slice_get sizes c ≡ Some size → kept (n + c)
    ≡ false
    → total (reservation head kept flies) n sizes + total (newly head kept up) n (take c sizes)
    + whole head size ≤ sum_by (whole head) sizes
all-need head kept flies up n [] c size at down = absurd (cc)
all-need head kept flies up n (x ∷ xs) zero size at down =
    let same : x ≡ size = same_Some x size at in
    let rest : total (reservation head kept flies) (n + 1) xs ≤ sum_by (whole head) xs = reserved-need head kept flies (n + 1) xs in
    let place : n + 0 ≡ n = omega arith in
    let here : reservation head kept flies (n, x) ≡ 0 = ap (λ g. cond g (cond (flies n) head (2 * head + x)) 0) (ap kept (sym place) ∙ down)
    in
    let mine : whole head x ≡ whole head size = ap (whole head) same in
    rw (total-cons (reservation head kept flies) n x xs, sum_by-cons (whole head) x xs) (omega arith)
all-need head kept flies up n (x ∷ xs) (suc c) size at down =
    let place : n + 1 + c ≡ n + suc c = omega arith in
    let rest : total (reservation head kept flies) (n + 1) xs + total (newly head kept up) (n + 1) (take c xs)
    + whole head size ≤ sum_by (whole head) xs =
    all-need head kept flies up (n + 1) xs c size at (ap kept place ∙ down) in
    let here : reservation head kept flies (n, x) + newly head kept up (n, x) ≤ whole head x = one-each head x (kept n) (flies n) (up n) in
    rw (total-cons (reservation head kept flies) n x xs, total-cons (newly head kept up) n x (take c xs), sum_by-cons (whole head) x xs)
    (omega arith)

-- ---- once gates have gone up
one-raised : (head size : ℕ) (g f u : Bool) → (g ≡ true → u ≡ true) → (f ≡ true → g ≡ true)
    → cond u (cond f head (2 * head + size)) 0 ≡ cond g (cond f head (2 * head + size)) 0 + cond (u && not g) (2 * head + size) 0
one-raised head size true f true stay within = omega arith
one-raised head size true f false stay within = absurd (let x = stay refl in cc)
one-raised head size false true u stay within = absurd (let x = within refl in cc)
one-raised head size false false true stay within = omega arith
one-raised head size false false false stay within = omega arith

pub raised-reserved : (head : ℕ) (gates flies up : ℕ → Bool) → ((c : ℕ) → gates c ≡ true → up c ≡ true)
    → ((c : ℕ) → flies c ≡ true → gates c ≡ true) → (n : ℕ) (sizes : List ℕ)
    → total (reservation head up flies) n sizes ≡ total (reservation head gates flies) n sizes + total (newly head gates up) n sizes
raised-reserved head gates flies up stay within n [] = refl
raised-reserved head gates flies up stay within n (size ∷ sizes) =
    let rest : total (reservation head up flies) (n + 1) sizes ≡ total (reservation head gates flies) (n + 1) sizes
    + total (newly head gates up) (n + 1) sizes =
    raised-reserved head gates flies up stay within (n + 1) sizes in
    let here : reservation head up flies (n, size) ≡ reservation head gates flies (n, size) + newly head gates up (n, size) =
    one-raised head size (gates n) (flies n) (up n) (stay n) (within n) in
    rw (
      total-cons (reservation head up flies) n size sizes,
      total-cons (reservation head gates flies) n size sizes,
      total-cons
          (newly head gates up) n size sizes,
    ) (omega arith)

-- the gates that went up leave the sum within the capacity
one-more : (claimed sum head capacity size : ℕ) (g u : Bool) → claimed + sum ≤ capacity
    → (g ≡ false → u ≡ leb (claimed + sum + whole head size) capacity)
    → claimed + (sum + cond (u && not g) (whole head size) 0) ≤ capacity
one-more claimed sum head capacity size true true l e = omega arith
one-more claimed sum head capacity size true false l e = omega arith
one-more claimed sum head capacity size false true l e = let t = leb-true (claimed + sum + whole head size) capacity (sym (e refl))
    in omega arith
one-more claimed sum head capacity size false false l e = omega arith

raised-front : (head capacity : ℕ) (sizes : List ℕ) (claimed gates up : ℕ) → RaisedFrom head capacity sizes 0 claimed gates up
    → claimed ≤ capacity
    → (i : ℕ) → i ≤ length sizes → claimed + total (newly head (has gates) (has up)) 0 (take i sizes) ≤ capacity
raised-front head capacity sizes claimed gates up is l zero w = omega arith
raised-front head capacity sizes claimed gates up is l (suc i) w = ⊎_elim
    (λ (f : (size : ℕ) × (i < length sizes) × (slice_get sizes i ≡ Some size) × (get_or sizes i size ≡ size)).
    let before = raised-front head capacity sizes claimed gates up is l i (omega arith) in
    let more = total-more (newly head (has gates) (has up)) 0 sizes i f.0 f.2 in
    let one = one-more claimed (total (newly head (has gates) (has up)) 0 (take i sizes)) head capacity f.0 (has gates (0 + i))
    (has up (0 + i)) before (is.exact i f.0 f.2) in
    rw more one)
    (λ (n : (length sizes ≤ i) × (slice_get sizes i ≡ None)). absurd (omega (arith, n.0)))
    (slice_get_cases sizes i).1

pub raised-within : (head capacity : ℕ) (sizes : List ℕ) (claimed gates up : ℕ) → RaisedFrom head capacity sizes 0 claimed gates up
    → claimed ≤ capacity
    → claimed + total (newly head (has gates) (has up)) 0 sizes ≤ capacity
raised-within head capacity sizes claimed gates up is l =
    let all = raised-front head capacity sizes claimed gates up is l (length sizes) (omega arith) in
    rw (take_all (length sizes) sizes (omega arith)) at all

-- ---- for two that agree on the flight of the kept channels
one-alike : (head size : ℕ) (g f o : Bool) → (g ≡ true → f ≡ o) → cond g (cond f head (2 * head + size)) 0
    ≡ cond g (cond o head (2 * head + size)) 0
one-alike head size true f o h = ap (λ b. cond b head (2 * head + size)) (h refl)
one-alike head size false f o h = refl

pub reserved-alike : (sizes : List ℕ) (kept flies other : ℕ → Bool) → ((c : ℕ) → kept c ≡ true → flies c ≡ other c)
    → reserved sizes kept flies ≡ reserved sizes kept other
reserved-alike sizes kept flies other h =
    let head = head_len (length sizes) in
    total-same (reservation head kept flies) (reservation head kept other) 0 sizes
    (λ c size l m. one-alike head size (kept c) (flies c) (other c) (h c))

pub raised-alike : (sizes : List ℕ) (capacity used : ℕ) (kept flies other up : ℕ → Bool) → ((c : ℕ) → kept c ≡ true → flies c ≡ other c)
    → AreRaised sizes capacity used kept flies up → AreRaised sizes capacity used kept other up
raised-alike sizes capacity used kept flies other up h is = record {
  channels = is.channels;
  stay = is.stay;
  raised = λ c size at down. is.raised c size at down
      ∙ ap (λ n. leb (used + n + raised_below sizes kept up c + whole (head_len (length sizes)) size) capacity)
      (reserved-alike sizes kept flies other h);
}

-- ---- as *Gates* says it
pub are-raised : (capacity used : ℕ) (sizes : List ℕ) (gates up : ℕ) (flies : ℕ → Bool) → gates < 2 ^ length sizes
    → RaisedFrom (head_len (length sizes)) capacity sizes 0 (used + reserved sizes (has gates) flies) gates up
    → AreRaised sizes capacity used (has gates) flies (has up)
are-raised capacity used sizes gates up flies l is = record {
  channels = λ c m. is.above c (omega arith) ∙ has-above gates (length sizes) c l m;
  stay = is.stay;
  raised = λ c size at down.
      let place : 0 + c ≡ c = zero-add c in
      ap (has up) (sym place) ∙ is.exact c size at (ap (has gates) place ∙ down);
}
