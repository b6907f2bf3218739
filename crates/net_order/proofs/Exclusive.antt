-- What has an order has no loop.
use Rattle.std.proofs.Common.{◌≡◌, ℕ, ◌<◌, List, [], ◌∷◌, ◌++◌, ⊎_elim, length, sym, subst, append_assoc, arith}
use Rattle.std.proofs.lemmas.List.{append-nil}
use Rattle.std.specs.List.{Contains}
use Rattle.std.proofs.lemmas.List.Elements.{Contains-append_cases}
use Rattle.vidi_bits.proofs.Lists.{head_in, tail_in, none_in, cases_in}
use Rattle.net_order.specs.Order.{Follows, IsOrderBy, IsLoopBy, Chain, last_of}
use Rattle.net_order.proofs.Members.{single}

pub last_in : (x : ℕ) (ds : List ℕ) → 0 < length ds → Contains ds (last_of x ds)
last_in x [] l = absurd (omega arith)
last_in x (d ∷ []) l = head_in d []
last_in x (d ∷ (e ∷ r)) l = tail_in d (e ∷ r) _ (last_in d (e ∷ r) (omega arith))

-- each of a chain reads one of it, or the one before it
before_in : (R : ℕ → ℕ → Type 0) (x : ℕ) (ds : List ℕ) (i : ℕ) → Chain R x ds → Contains ds i → (j : ℕ) × Contains (x ∷ ds) j × R i j
before_in R x [] i c h = absurd (none_in i h)
before_in R x (d ∷ ds) i c h = ⊎_elim
    (λ (e : d ≡ i). (x, head_in x (d ∷ ds), subst (λ z. R z x) e c.0))
    (λ (t : Contains ds i). let r = before_in R d ds i c.1 t in (r.0, tail_in x (d ∷ ds) r.0 r.1, r.2))
    (cases_in d ds i h)

abbrev Reading : (ℕ → ℕ → Type 0) → List ℕ → Type 0
Reading R ds = (i : ℕ) → Contains ds i → (j : ℕ) × Contains ds j × R i j

loop_reads : (R : ℕ → ℕ → Type 0) (ds : List ℕ) → IsLoopBy R ds → Reading R ds
loop_reads R ds loop i h =
    let r = before_in R (last_of 0 ds) ds i loop.chain h in
    ⊎_elim
    (λ (e : last_of 0 ds ≡ r.0). (r.0, subst (Contains ds) e (last_in 0 ds loop.some), r.2))
    (λ (t : Contains ds r.0). (r.0, t, r.2))
    (cases_in (last_of 0 ds) ds r.0 r.1)

none_of : (n : ℕ) (R : ℕ → ℕ → Type 0) (ds : List ℕ) → Reading R ds → (before order : List ℕ)
    → ((i : ℕ) → Contains before i → Contains ds i → ⊥) → Follows n R before order → (i : ℕ) → Contains (before ++ order) i → Contains ds i
    → ⊥
none_of n R ds each before [] none f i c d = none i (subst (λ (z : List ℕ). Contains z i) (append-nil before) c) d
none_of n R ds each before (o ∷ order) none f i c d =
    none_of n R ds each (before ++ o ∷ []) order
    (λ j cj dj. ⊎_elim
    (λ (h : Contains before j). none j h dj)
    (λ (h : Contains (o ∷ []) j).
    let p = each j dj in none p.0 (f.2 p.0 (subst (λ z. R z p.0) (sym (single o j h)) p.2)) p.1)
    (Contains-append_cases before (o ∷ []) j cj))
    f.3 i (subst (λ (z : List ℕ). Contains z i) (sym (append_assoc before (o ∷ []) order)) c) d

pub exclusive : (n : ℕ) (R : ℕ → ℕ → Type 0) → ((i j : ℕ) → R i j → i < n) → (order ds : List ℕ) → IsOrderBy n R order → IsLoopBy R ds → ⊥
exclusive n R within order ds o loop =
    let each = loop_reads R ds loop in
    let i = last_of 0 ds in
    let inside : Contains ds i = last_in 0 ds loop.some in
    let p = each i inside in
    none_of n R ds each [] order (λ j c d. none_in j c) o.follows i (o.all i (within i p.0 p.2)) inside
