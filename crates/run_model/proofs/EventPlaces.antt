-- The places of those that pass, and what covers a clock.
use Rattle.std.proofs.Common.{◌≡◌, ◌⊎◌, ℕ, zero, suc, ◌+◌, ◌<◌, ◌≤◌, Bool, true, false, cond, ltb, List, [], ◌∷◌, ◌++◌, Some}
use Rattle.std.proofs.Common.{length, take, slice_get, count_by, inl, inr, ⊎_elim, refl, ap, sym, subst, ◌∙◌, arith}
use Rattle.std.specs.List.{filter, flat_map, enumerate_from}
use Rattle.std.proofs.lemmas.Bool.{cases_lt, false≢true, le-ltb, cond-false}
use Rattle.std.proofs.lemmas.Option.{same_Some, slice_get_within}
use Rattle.chan_map.specs.trace_model.declared.channel.Channel.{Channel}
use Rattle.chan_map.specs.trace_model.declared.event.Kind.{Kind}
use Rattle.chan_map.specs.trace_model.declared.packet.Packet.{Packet}
use Rattle.chan_map.specs.trace_model.Clock.{clock, Covers}
use Rattle.chan_map.specs.trace_model.Counting.{IsNth}
use Rattle.chan_map.specs.trace_model.Packet.{does, count}
use Rattle.chan_map.proofs.trace_model_lemmas.CountingLemmas.{count-cons, nth, nth-below, nth-unique}
use Rattle.run_model.specs.Held.{places_from, await_on}
use Rattle.run_model.specs.Replay.{IsCovered}

-- ---- places
place-cons : (b : Bool) (k : ℕ) (r : List ℕ) (j p : ℕ) → slice_get (cond b (k ∷ r) r) j ≡ Some p
    → ((b ≡ true) × (j ≡ 0) × (k ≡ p)) ⊎ ((i : ℕ) × (j ≡ cond b 1 0 + i) × (slice_get r i ≡ Some p))
place-cons true k r zero p h = inl (refl, refl, cc)
place-cons true k r (suc i) p h = inr (i, omega arith, h)
place-cons false k r j p h = inr (j, omega arith, h)

pub record PlaceIs {X : Type 0} (test : X → Bool) (k : ℕ) (xs : List X) (j p : ℕ) : Type 0 where
  pub q : ℕ
  pub x : X
  pub is : IsNth test xs j q x
  pub place : p ≡ k + q

pub place-is : {X : Type 0} (test : X → Bool) (k : ℕ) (xs : List X) (j p : ℕ) → slice_get (places_from test k xs) j ≡ Some p
    → PlaceIs test k xs j p
place-is test k [] j p h = absurd (cc)
place-is test k (x ∷ xs) j p h = ⊎_elim
    (λ (a : (test x ≡ true) × (j ≡ 0) × (k ≡ p)). record {
      q = 0;
      x = x;
      is = record { at = refl; passes = a.0; before = sym a.1 };
      place = let e = a.2 in omega (arith, e);
    })
    (λ (a : (i : ℕ) × (j ≡ cond (test x) 1 0 + i) × (slice_get (places_from test (k + 1) xs) i ≡ Some p)).
    (let r = place-is test (k + 1) xs a.0 p a.2 in
    record {
      q = suc r.q;
      x = r.x;
      is = record {
        at = r.is.at;
        passes = r.is.passes;
        before = count-cons test x (take r.q xs) ∙ ap (λ n. cond (test x) 1 0 + n) r.is.before ∙ sym a.1;
      };
      place = let e = r.place in omega (arith, e);
    }))
    (place-cons (test x) k (places_from test (k + 1) xs) j p h)

there : (b : Bool) (k : ℕ) (r : List ℕ) (i p : ℕ) → slice_get r i ≡ Some p → slice_get (cond b (k ∷ r) r) (cond b 1 0 + i) ≡ Some p
there true k r i p h = let s : 1 + i ≡ suc i = omega arith in ap (slice_get (k ∷ r)) s ∙ h
there false k r i p h = let s : 0 + i ≡ i = omega arith in ap (slice_get r) s ∙ h

here : (b : Bool) (k : ℕ) (r : List ℕ) → b ≡ true → slice_get (cond b (k ∷ r) r) 0 ≡ Some k
here true k r h = refl
here false k r h = absurd (false≢true h)

pub nth-place : {X : Type 0} (test : X → Bool) (k : ℕ) (xs : List X) (j q p : ℕ) (x : X) → IsNth test xs j q x → p ≡ k + q
    → slice_get (places_from test k xs) j ≡ Some p
nth-place test k [] j q p x is e = (let l = slice_get_within [] q x is.at in absurd (omega arith))
nth-place test k (y ∷ ys) j zero p x is e =
    let same : y ≡ x = same_Some y x is.at in
    let zero-is : j ≡ 0 = sym is.before in
    let p-is : k ≡ p = omega (arith, e) in
    ap (slice_get (cond (test y) (k ∷ places_from test (k + 1) ys) (places_from test (k + 1) ys))) zero-is
    ∙ here (test y) k (places_from test (k + 1) ys) (ap test same ∙ is.passes) ∙ ap Some p-is
nth-place test k (y ∷ ys) j (suc q) p x is e =
    let i = count_by test (take q ys) in
    let j-is : j ≡ cond (test y) 1 0 + i = sym is.before ∙ count-cons test y (take q ys) in
    ap (slice_get (cond (test y) (k ∷ places_from test (k + 1) ys) (places_from test (k + 1) ys))) j-is
    ∙ there (test y) k (places_from test (k + 1) ys) i p
    (nth-place test (k + 1) ys i q p x (record { at = is.at; passes = is.passes; before = refl }) (omega (arith, e)))

-- the j-th of those kept
pub filter-nth : {X : Type 0} (test : X → Bool) (xs : List X) (j p : ℕ) (x : X) → IsNth test xs j p x
    → slice_get (filter test xs) j ≡ Some x
filter-nth test [] j p x is = (let l = slice_get_within [] p x is.at in absurd (omega arith))
filter-nth test (y ∷ ys) j zero x is =
    let same : y ≡ x = same_Some y x is.at in
    let zero-is : j ≡ 0 = sym is.before in
    ap (slice_get (cond (test y) (y ∷ filter test ys) (filter test ys))) zero-is ∙ first (test y) (ap test same ∙ is.passes) ∙ ap Some same
  where
    first : (b : Bool) → b ≡ true → slice_get (cond b (y ∷ filter test ys) (filter test ys)) 0 ≡ Some y
    first true h = refl
    first false h = absurd (false≢true h)
filter-nth test (y ∷ ys) j (suc q) x is =
    let i = count_by test (take q ys) in
    let j-is : j ≡ cond (test y) 1 0 + i = sym is.before ∙ count-cons test y (take q ys) in
    ap (slice_get (cond (test y) (y ∷ filter test ys) (filter test ys))) j-is
    ∙ later (test y) i (filter-nth test ys i q x (record { at = is.at; passes = is.passes; before = refl }))
  where
    later : (b : Bool) (i : ℕ) → slice_get (filter test ys) i ≡ Some x
        → slice_get (cond b (y ∷ filter test ys) (filter test ys)) (cond b 1 0 + i) ≡ Some x
    later true i h = let s : 1 + i ≡ suc i = omega arith in ap (slice_get (y ∷ filter test ys)) s ∙ h
    later false i h = let s : 0 + i ≡ i = omega arith in ap (slice_get (filter test ys)) s ∙ h

-- ---- a clock is covered or not
pub covers-or-not : (n : ℕ) (x y : ℕ → ℕ) → Covers n x y ⊎ (Covers n x y → ⊥)
covers-or-not zero x y = inl (λ c l. absurd (omega arith))
covers-or-not (suc n) x y = ⊎_elim
    (λ (h : x n < y n). inr (λ all. (let a = all n (omega arith) in absurd (omega arith))))
    (λ (h : y n ≤ x n). ⊎_elim
    (λ (below : Covers n x y). inl (λ c l. ⊎_elim (λ (m : c < n). below c m) (λ (m : n ≤ c). (let e : c ≡ n = omega arith
    in let a : y c ≡ y n = ap y e in let b : x c ≡ x n = ap x e in omega arith)) (cases_lt c n)))
    (λ (no-cover : Covers n x y → ⊥). inr (λ all. no-cover (λ c l. all c (omega arith))))
    (covers-or-not n x y))
    (cases_lt (x n) (y n))

pub covered-or-not : (n : ℕ) (packets : List Packet) (have : ℕ → ℕ) (kind : Kind) (c k : ℕ)
    → IsCovered n packets have kind c k ⊎ (IsCovered n packets have kind c k → ⊥)
covered-or-not n packets have kind c k = ⊎_elim
    (λ (l : k < count kind c packets).
    (let found = nth (does kind c) packets k l in
    ⊎_elim
    (λ (covers : Covers n have (clock packets found.place)).
    inl (record { place = found.place; packet = found.item; is = found.is; covers = covers }))
    (λ (none : Covers n have (clock packets found.place) → ⊥). inr (λ x. none (
    let same = nth-unique (does kind c) packets k x.place found.place x.packet found.item x.is found.is in
    subst (λ p. Covers n have (clock packets p)) same.0 x.covers)))
    (covers-or-not n have (clock packets found.place))))
    (λ (l : count kind c packets ≤ k).
    inr (λ x. (let b = nth-below (does kind c) packets k x.place x.packet x.is in absurd (omega arith))))
    (cases_lt k (count kind c packets))

-- ---- nothing is awaited where a clock is covered
pub awaits-none : (channels : List Channel) (have need : ℕ → ℕ) (k : ℕ) → ((i : ℕ) → i < length channels → need (k + i) ≤ have (k + i))
    → flat_map (λ (c : ℕ × Channel). await_on have need c.0) (enumerate_from k channels) ≡ []
awaits-none [] have need k covers = refl
awaits-none (x ∷ xs) have need k covers =
    let zero-is : k + 0 ≡ k = omega arith in
    let first : need k ≤ have k = subst (λ n. need n ≤ have n) zero-is (covers 0 (omega arith)) in
    let off : await_on have need k ≡ [] = cond-false (ltb (have k) (need k)) _ [] (le-ltb (have k) (need k) first) in
    ap (λ es. es ++ flat_map (λ (c : ℕ × Channel). await_on have need c.0) (enumerate_from (k + 1) xs)) off
    ∙ awaits-none xs have need (k + 1) (λ i l. (let e : k + suc i ≡ (k + 1) + i = omega arith in
    subst (λ n. need n ≤ have n) e (covers (suc i) (omega arith))))
