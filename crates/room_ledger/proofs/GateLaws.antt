-- What *Gates* alone says: exactly one set of gates, and gates that are down only while bytes wait.
use Rattle.std.proofs.Common.{◌≡◌, ℕ, zero, suc, ◌+◌, ◌<◌, ◌≤◌, ◌&&◌, Bool, true, false, not, cond, List, Option, Some, None, length, take}
use Rattle.std.proofs.Common.{get_or, slice_get, leb, refl, ap, sym, subst, ◌∙◌, ⊎_elim, arith, le-leb}
use Rattle.std.specs.Prelude.{IsSomeAnd}
use Rattle.std.proofs.lemmas.Bool.{cases_Bool, cases_lt, false≢true, or_right}
use Rattle.std.proofs.lemmas.List.{length-take-le}
use Rattle.std.proofs.lemmas.Option.{slice_get_cases}
use Rattle.trace_model.specs.vidi_bits.Number.{has}
use Rattle.trace_model.specs.declared.row.Row.{Row}
use Rattle.trace_model.specs.Length.{head_len}
use Rattle.trace_model.specs.Row.{is_in_flight}
use Rattle.trace_model.specs.Mask.{all_up}
use Rattle.room_ledger.specs.Reservation.{whole, need, least, reserved, raised_below, reset_len, permit_room, AreRaised}
use Rattle.room_ledger.specs.Gates.{Plan, left, row_len, fresh_at, used_at, permit_at, charged_at, keeps, kept_room, AreGates}
use Rattle.room_ledger.specs.Laws.{EverythingDrains}
use Rattle.room_ledger.proofs.Masks.{has-all, has-all_above, same-masks}
use Rattle.trace_model.proofs.LengthLemmas.{total-same}
use Rattle.room_ledger.proofs.Raising.{newly}
use Rattle.room_ledger.proofs.Reserving.{permit-le, least-is, all-need, reserved-need}

-- ---- down only while bytes wait
-- where all R_c fit beside what is used, all gates are up
raised-up : (sizes : List ℕ) (capacity used : ℕ) (kept flies up : ℕ → Bool) → AreRaised sizes capacity used kept flies up
    → need sizes + used ≤ capacity → (c size : ℕ) → slice_get sizes c ≡ Some size → up c ≡ true
raised-up sizes capacity used kept flies up is fits c size at = ⊎_elim
    (λ (k : kept c ≡ true). is.stay c k)
    (λ (k : kept c ≡ false).
    let sum = all-need (head_len (length sizes)) kept flies up 0 sizes c size at (ap kept (omega arith) ∙ k) in
    let room : used + reserved sizes kept flies + raised_below sizes kept up c
    + whole (head_len (length sizes)) size ≤ capacity = omega arith in
    is.raised c size at k ∙ le-leb _ _ room)
    (cases_Bool (kept c))

channel-at : (sizes : List ℕ) (c : ℕ) → c < length sizes → (size : ℕ) × (slice_get sizes c ≡ Some size)
channel-at sizes c l = ⊎_elim
    (λ (f : (size : ℕ) × (c < length sizes) × (slice_get sizes c ≡ Some size) × (get_or sizes c size ≡ size)). (f.0, f.2))
    (λ (n : (length sizes ≤ c) × (slice_get sizes c ≡ None)). absurd (omega (arith, n.0)))
    (slice_get_cases sizes c).1

-- the row before, where the gates are those of a row
pub some-row : (P : Row → Type 0) (o : Option Row) → IsSomeAnd o P → (row : Row) × (o ≡ Some row) × P row
some-row P None h = absurd h
some-row P (Some row) h = (row, refl, h)

pub down-waits : (sizes : List ℕ) (plan : Plan) (rows : List Row) (t : ℕ) (fresh : Bool) (gates c : ℕ)
    → least sizes plan.resets ≤ plan.capacity → AreGates sizes plan rows t fresh gates → c < length sizes → has gates c ≡ false
    → 0 < used_at sizes plan rows t fresh
down-waits sizes plan rows zero fresh gates c fits is l down =
    absurd (false≢true (sym down ∙ ap (λ g. has g c) is ∙ has-all (length sizes) c l))
down-waits sizes plan rows (suc t) fresh gates c fits is l down =
    let used = used_at sizes plan rows (suc t) fresh in
    let permit = permit_at sizes plan rows (suc t) fresh in
    let charged = charged_at sizes plan rows (suc t) fresh in
    let before = some-row (λ row. AreRaised sizes plan.capacity charged (keeps row fresh) (is_in_flight row) (has gates)) (slice_get rows t)
    is in
    let channel = channel-at sizes c l in
    ⊎_elim
    (λ (some : 0 < used). some)
    (λ (none : used ≤ 0).
    let less = permit-le plan.resets permit in
    let sum = least-is sizes plan.resets in
    let room : need sizes + (used + permit_room plan.resets permit) ≤ plan.capacity = omega arith in
    absurd (false≢true (sym down
    ∙ raised-up sizes plan.capacity charged (keeps before.0 fresh) (is_in_flight before.0) (has gates) before.2 room c channel.0 channel.1)))
    (cases_lt 0 used)

-- what is kept behind a row needs no more than all channels do
kept-need : (sizes : List ℕ) (row : Option Row) (fresh : Bool) → kept_room sizes row fresh ≤ need sizes
kept-need sizes None fresh = omega arith
kept-need sizes (Some row) fresh = reserved-need (head_len (length sizes)) (keeps row fresh) (is_in_flight row) 0 sizes

pub permit-waits : (sizes : List ℕ) (plan : Plan) (rows : List Row) (t : ℕ) (fresh : Bool) → least sizes plan.resets ≤ plan.capacity
    → permit_at sizes plan rows t fresh ≡ false → 0 < used_at sizes plan rows t fresh
permit-waits sizes plan rows zero fresh fits down = absurd (cc)
permit-waits sizes plan rows (suc t) fresh fits down =
    let used = used_at sizes plan rows (suc t) fresh in
    let room = used + kept_room sizes (slice_get rows t) fresh + permit_room plan.resets true in
    ⊎_elim
    (λ (some : 0 < used). some)
    (λ (none : used ≤ 0).
    let kept = kept-need sizes (slice_get rows t) fresh in
    let sum = least-is sizes plan.resets in
    let enough : room ≤ plan.capacity = omega arith in
    absurd (false≢true (sym down ∙ or_right (permit_at sizes plan rows t (fresh_at plan rows t) && not fresh) (leb room plan.capacity)
    (le-leb room plan.capacity enough))))
    (cases_lt 0 used)

-- ---- all stay up
pub none-left : (sizes : List ℕ) (plan : Plan) (rows : List Row) → EverythingDrains sizes plan rows → (t : ℕ)
    → used_at sizes plan rows t (fresh_at plan rows t) ≡ 0
none-left sizes plan rows drains zero = refl
none-left sizes plan rows drains (suc t) = drains t

-- without a reset no more waits than with one
left-least : (allowance : Option ℕ) (some more : ℕ) → some ≤ more → left allowance some ≤ left allowance more
left-least None some more l = omega (arith, l)
left-least (Some n) some more l = omega (arith, l)

used-least : (sizes : List ℕ) (plan : Plan) (rows : List Row) (t : ℕ) (fresh : Bool)
    → used_at sizes plan rows t false ≤ used_at sizes plan rows t fresh
used-least sizes plan rows zero fresh = omega arith
used-least sizes plan rows (suc t) false = omega arith
used-least sizes plan rows (suc t) true =
    let used = used_at sizes plan rows t (fresh_at plan rows t) in
    let len = row_len sizes (slice_get rows t) in
    left-least (plan.allowance t) (used + len) (used + (len + reset_len)) (omega arith)

pub none-waits : (sizes : List ℕ) (plan : Plan) (rows : List Row) → EverythingDrains sizes plan rows → (t : ℕ)
    → used_at sizes plan rows t false ≡ 0
none-waits sizes plan rows drains t =
    let less = used-least sizes plan rows t (fresh_at plan rows t) in
    let none = none-left sizes plan rows drains t in
    omega (arith, less, none)

no-more : (sizes : List ℕ) (plan : Plan) (rows : List Row) (t : ℕ) (fresh : Bool) (gates : ℕ) → AreGates sizes plan rows t fresh gates
    → (c : ℕ) → length sizes ≤ c → has gates c ≡ false
no-more sizes plan rows zero fresh gates is c l = ap (λ g. has g c) is ∙ has-all_above (length sizes) c l
no-more sizes plan rows (suc t) fresh gates is c l =
    let before = some-row (λ row. AreRaised sizes plan.capacity (charged_at sizes plan rows (suc t) fresh) (keeps row fresh)
    (is_in_flight row) (has gates)) (slice_get rows t) is in
    before.2.channels c l

pub stay-up : (sizes : List ℕ) (plan : Plan) (rows : List Row) (t gates : ℕ) → least sizes plan.resets ≤ plan.capacity
    → EverythingDrains sizes plan rows → AreGates sizes plan rows t (fresh_at plan rows t) gates → gates ≡ all_up (length sizes)
stay-up sizes plan rows t gates fits drains is = same-masks gates (all_up (length sizes)) (λ c. ⊎_elim
    (λ (l : c < length sizes). ⊎_elim
    (λ (up : has gates c ≡ true). up ∙ sym (has-all (length sizes) c l))
    (λ (down : has gates c ≡ false).
    let some = down-waits sizes plan rows t (fresh_at plan rows t) gates c fits is l down in
    let none = none-left sizes plan rows drains t in
    absurd (omega arith))
    (cases_Bool (has gates c)))
    (λ (l : length sizes ≤ c). no-more sizes plan rows t (fresh_at plan rows t) gates is c l ∙ sym (has-all_above (length sizes) c l))
    (cases_lt c (length sizes)))

-- ---- one set of gates
-- two sets of gates that agree below channel c have raised the same gates there
same-below : (sizes : List ℕ) (kept up other : ℕ → Bool) (c : ℕ) → c ≤ length sizes → ((d : ℕ) → d < c → up d ≡ other d)
    → raised_below sizes kept up c ≡ raised_below sizes kept other c
same-below sizes kept up other c l h =
    let size = length-take-le c sizes l in
    total-same (newly (head_len (length sizes)) kept up) (newly (head_len (length sizes)) kept other) 0 (take c sizes)
    (λ d b m n. ap (λ u. cond (u && not (kept d)) (whole (head_len (length sizes)) b) 0) (h d (omega arith)))

same-gate : (sizes : List ℕ) (capacity used : ℕ) (kept flies up other : ℕ → Bool) → AreRaised sizes capacity used kept flies up
    → AreRaised sizes capacity used kept flies other
    → (c : ℕ) → ((d : ℕ) → d < c → up d ≡ other d) → up c ≡ other c
same-gate sizes capacity used kept flies up other a b c below = ⊎_elim
    (λ (l : c < length sizes). ⊎_elim
    (λ (k : kept c ≡ true). a.stay c k ∙ sym (b.stay c k))
    (λ (k : kept c ≡ false).
    let channel = channel-at sizes c l in
    a.raised c channel.0 channel.1 k
    ∙ ap (λ sum. leb (used + reserved sizes kept flies + sum + whole (head_len (length sizes)) channel.0) capacity)
    (same-below sizes kept up other c (omega arith) below)
    ∙ sym (b.raised c channel.0 channel.1 k))
    (cases_Bool (kept c)))
    (λ (l : length sizes ≤ c). a.channels c l ∙ sym (b.channels c l))
    (cases_lt c (length sizes))

same-front : (sizes : List ℕ) (capacity used : ℕ) (kept flies up other : ℕ → Bool) → AreRaised sizes capacity used kept flies up
    → AreRaised sizes capacity used kept flies other
    → (c d : ℕ) → d < c → up d ≡ other d
same-front sizes capacity used kept flies up other a b zero d l = absurd (omega arith)
same-front sizes capacity used kept flies up other a b (suc c) d l =
    same-gate sizes capacity used kept flies up other a b d (λ e m. same-front sizes capacity used kept flies up other a b c e
    (omega arith))

pub same-raised : (sizes : List ℕ) (capacity used : ℕ) (kept flies : ℕ → Bool) (a b : ℕ) → AreRaised sizes capacity used kept flies (has a)
    → AreRaised sizes capacity used kept flies (has b) → a ≡ b
same-raised sizes capacity used kept flies a b is too = same-masks a b
    (λ c. same-front sizes capacity used kept flies (has a) (has b) is too (suc c) c (omega arith))

pub one-set : (sizes : List ℕ) (plan : Plan) (rows : List Row) (t : ℕ) (fresh : Bool) (a b : ℕ) → AreGates sizes plan rows t fresh a
    → AreGates sizes plan rows t fresh b → a ≡ b
one-set sizes plan rows zero fresh a b is too = is ∙ sym too
one-set sizes plan rows (suc t) fresh a b is too =
    let used = charged_at sizes plan rows (suc t) fresh in
    let raised = λ (gates : ℕ) (row : Row). AreRaised sizes plan.capacity used (keeps row fresh) (is_in_flight row) (has gates) in
    let first = some-row (raised a) (slice_get rows t) is in
    let here : IsSomeAnd (Some first.0) (raised b) = subst (λ (o : Option Row). IsSomeAnd o (raised b)) first.1 too in
    same-raised sizes plan.capacity used (keeps first.0 fresh) (is_in_flight first.0) a b first.2 here
