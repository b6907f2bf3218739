-- The table of the next beat of each ID.
use Rattle.std.proofs.Common.{◌≡◌, ℕ, zero, suc, ◌+◌, ◌-◌, ◌<◌, ◌≤◌, Bool, true, false, cond, eqb, List, [], ◌∷◌, ◌++◌, map, drop, replicate}
use Rattle.std.proofs.Common.{slice_get, Option, None, Some, refl, ap, sym, subst, ◌∙◌, ⊎_elim, add-one, arith}
use Rattle.std.proofs.lemmas.Bool.{cases_Bool, eq-eqb, eqb-true}
use Rattle.std.proofs.lemmas.List.{drop-map}
use Rattle.std.proofs.lemmas.Option.{same_Some}
use Rattle.axi_burst.specs.declared.heads.Heads.{Heads}
use Rattle.axi_burst.specs.declared.transfers.Address.{Address}
use Rattle.axi_burst.specs.declared.turns.Turns.{Turns}
use Rattle.axi_burst.specs.Bursts.{is_last, numbers_with, turns}
use Rattle.axi_burst.specs.Counted.{count_in}
use Rattle.axi_burst.specs.HeadTable.{AreHeads, Takes, head_in, none_taken, one_more}
use Rattle.axi_burst.specs.Heads.{next_with}
use Rattle.axi_burst.specs.TurnTable.{AreTurns, TakesTurn, left_from, left_in, turns_of}
use Rattle.axi_burst.proofs.NextHead.{heads-advance, here, low, other, past}

-- ---- the turns from an address on are those of the first one with the ID, and those behind it
module _ (id : ℕ) where
  turns-yes : (a : Address) (asks : List Address) → eqb a.id id ≡ true → turns id (a ∷ asks) ≡ turns_of a ++ turns id asks
  turns-yes a asks t = ap (λ b. cond b (turns_of a) [] ++ turns id asks) t

  turns-no : (a : Address) (asks : List Address) → eqb a.id id ≡ false → turns id (a ∷ asks) ≡ turns id asks
  turns-no a asks t = ap (λ b. cond b (turns_of a) [] ++ turns id asks) t

  -- address m, of addresses numbered from n on, has the first turns behind the first d addresses
  pub record IsNext (n m d : ℕ) (asks : List Address) : Type 0 where
    pub place : ℕ
    pub number : m ≡ n + place
    pub a : Address
    pub at : slice_get asks place ≡ Some a
    pub are : turns id (drop d asks) ≡ turns_of a ++ turns id (drop (suc place) asks)

  next-later : (n m d : ℕ) (a : Address) (asks : List Address) → IsNext (n + 1) m d asks → IsNext n m (suc d) (a ∷ asks)
  next-later n m d a asks r = record {
    place = suc r.place;
    number = (let e = r.number in omega (arith, e));
    a = r.a;
    at = r.at;
    are = r.are;
  }

  next-skipped : (n m : ℕ) (a : Address) (asks : List Address) → eqb a.id id ≡ false → IsNext (n + 1) m 0 asks → IsNext n m 0 (a ∷ asks)
  next-skipped n m a asks t r = record {
    place = suc r.place;
    number = (let e = r.number in omega (arith, e));
    a = r.a;
    at = r.at;
    are = turns-no a asks t ∙ r.are;
  }

  next-some : (asks : List Address) (k n d m : ℕ) → k ≡ n + d → next_with id k n asks ≡ Some m → IsNext n m d asks
  next-some [] k n d m e h = absurd cc
  next-some (a ∷ asks) k n zero m e h =
      let below : k ≤ n = omega (arith, e) in
      let later : k ≤ n + 1 = omega (arith, e) in
      let same : n + 1 ≡ (n + 1) + 0 = omega arith in
      let self : n + 1 ≤ n + 1 = omega arith in
      ⊎_elim
      (λ (t : eqb a.id id ≡ true). record {
        place = 0;
        number = (let i : n ≡ m = same_Some n m (sym (here id k n a asks t below) ∙ h) in omega (arith, i));
        a = a;
        at = refl;
        are = turns-yes a asks t;
      })
      (λ (t : eqb a.id id ≡ false). next-skipped n m a asks t
      (next-some asks (n + 1) (n + 1) 0 m same (low id asks (n + 1) k (n + 1) self later ∙ sym (other id k n a asks t) ∙ h)))
      (cases_Bool (eqb a.id id))
  next-some (a ∷ asks) k n (suc d) m e h =
      let up : n < k = omega (arith, e) in
      let more : k ≡ (n + 1) + d = omega (arith, e) in
      next-later n m d a asks (next-some asks k (n + 1) d m more (sym (past id k n a asks up) ∙ h))

  next-none : (asks : List Address) (k n d : ℕ) → k ≡ n + d → next_with id k n asks ≡ None → turns id (drop d asks) ≡ []
  next-none [] k n zero e h = refl
  next-none [] k n (suc d) e h = refl
  next-none (a ∷ asks) k n zero e h =
      let below : k ≤ n = omega (arith, e) in
      let later : k ≤ n + 1 = omega (arith, e) in
      let same : n + 1 ≡ (n + 1) + 0 = omega arith in
      let self : n + 1 ≤ n + 1 = omega arith in
      ⊎_elim
      (λ (t : eqb a.id id ≡ true). let i : Some n ≡ None = sym (here id k n a asks t below) ∙ h in absurd (cc))
      (λ (t : eqb a.id id ≡ false). turns-no a asks t
      ∙ next-none asks (n + 1) (n + 1) 0 same (low id asks (n + 1) k (n + 1) self later ∙ sym (other id k n a asks t) ∙ h))
      (cases_Bool (eqb a.id id))
  next-none (a ∷ asks) k n (suc d) e h =
      let up : n < k = omega (arith, e) in
      let more : k ≡ (n + 1) + d = omega (arith, e) in
      next-none asks k (n + 1) d more (sym (past id k n a asks up) ∙ h)

  pub turns-from : (asks : List Address) (k : ℕ) (o : Option ℕ) → next_with id k 0 asks ≡ o → turns id (drop k asks) ≡ left_from asks id 0 o
  turns-from asks k None h = next-none asks k 0 k (omega arith) h
  turns-from asks k (Some m) h =
      let r = next-some asks k 0 k m (omega arith) h in
      let place : m ≡ r.place = (let e = r.number in omega (arith, e)) in
      r.are
      ∙ ap (λ j. turns_of r.a ++ turns id (drop (suc j) asks)) (sym place)
      ∙ sym (ap (left_in asks id m 0) (ap (slice_get asks) place ∙ r.at))

-- ---- the turns of one burst
lasts-on : (n k : ℕ) → k < n → drop k (replicate n false ++ true ∷ []) ≡ false ∷ drop (suc k) (replicate n false ++ true ∷ [])
lasts-on zero k l = absurd (omega arith)
lasts-on (suc n) zero l = refl
lasts-on (suc n) (suc k) l = lasts-on n k (omega arith)

lasts-end : (n : ℕ) → drop n (replicate n false ++ true ∷ []) ≡ true ∷ []
lasts-end zero = refl
lasts-end (suc n) = lasts-end n

abbrev of_last : Address → Bool → ℕ × Bool
of_last a last = (a.at, last)

pub turn-on : (a : Address) (k : ℕ) → k < a.beats - 1 → drop k (turns_of a) ≡ (a.at, false) ∷ drop (suc k) (turns_of a)
turn-on a k l = drop-map (of_last a) k (is_last a.beats)
    ∙ ap (map (of_last a)) (lasts-on (a.beats - 1) k l)
    ∙ ap (λ xs. (a.at, false) ∷ xs) (sym (drop-map (of_last a) (suc k) (is_last a.beats)))

pub turn-end : (a : Address) (k : ℕ) → k ≡ a.beats - 1 → drop k (turns_of a) ≡ (a.at, true) ∷ []
turn-end a k e = ap (λ n. drop n (turns_of a)) e
    ∙ drop-map (of_last a) (a.beats - 1) (is_last a.beats) ∙ ap (map (of_last a)) (lasts-end (a.beats - 1))

-- ---- one is taken
first-of : {X : Type 0} (xs : List X) (k : ℕ) (y : X) (ys : List X) → drop k xs ≡ y ∷ ys
    → (slice_get xs k ≡ Some y) × (drop (suc k) xs ≡ ys)
first-of [] zero y ys h = absurd (cc)
first-of [] (suc k) y ys h = absurd (cc)
first-of (x ∷ xs) zero y ys h = ((cc), (cc))
first-of (x ∷ xs) (suc k) y ys h = first-of xs k y ys h

none-of : {X : Type 0} (xs : List X) (k : ℕ) → drop k xs ≡ [] → (slice_get xs k ≡ None) × (drop (suc k) xs ≡ [])
none-of [] zero h = (refl, refl)
none-of [] (suc k) h = (refl, refl)
none-of (x ∷ xs) zero h = absurd (cc)
none-of (x ∷ xs) (suc k) h = none-of xs k h

abbrev head : Turns → ℕ → Option ℕ
head t id = head_in t.heads.heads.entries id

abbrev used : Turns → ℕ → ℕ
used t id = count_in t.used.numbers.entries id

abbrev left_at : List Address → Turns → ℕ → List (ℕ × Bool)
left_at asks t id = left_from asks id (used t id) (head t id)

-- at the other IDs nothing changes
pub record StaysElsewhere (old new : Turns) (id : ℕ) : Type 0 where
  pub head : (q : ℕ) → eqb q id ≡ false → head_in new.heads.heads.entries q ≡ head_in old.heads.heads.entries q
  pub used : (q : ℕ) → eqb q id ≡ false → count_in new.used.numbers.entries q ≡ count_in old.used.numbers.entries q

module _ (asks : List Address) (taken bursts : ℕ → ℕ) (old new : Turns) (id : ℕ) (are : AreTurns asks taken old)
    (heads : AreHeads asks bursts new.heads) (stays : StaysElsewhere old new id)
    (here : drop (suc (taken id)) (turns id asks) ≡ left_at asks new id)
    (own : (m : ℕ) (a : Address) → head new id ≡ Some m → slice_get asks m ≡ Some a → used new id ≤ a.beats - 1) where
  abbrev Left : ℕ → Type 0
  Left q = drop (suc (taken q)) (turns q asks) ≡ left_at asks new q

  abbrev Within : ℕ → Type 0
  Within q = (m : ℕ) (a : Address) → head new q ≡ Some m → slice_get asks m ≡ Some a → used new q ≤ a.beats - 1

  left-own : (q : ℕ) → eqb q id ≡ true → drop (one_more taken id q) (turns q asks) ≡ left_at asks new q
  left-own q t = ap (λ b. drop (cond b (taken q + 1) (taken q)) (turns q asks)) t ∙ ap (λ n. drop n (turns q asks)) (add-one (taken q))
      ∙ subst Left (sym (eqb-true q id t)) here

  left-other : (q : ℕ) → eqb q id ≡ false → drop (one_more taken id q) (turns q asks) ≡ left_at asks new q
  left-other q t = ap (λ b. drop (cond b (taken q + 1) (taken q)) (turns q asks)) t ∙ are.left q
      ∙ ap (λ n. left_from asks q n (head old q)) (sym (stays.used q t)) ∙ ap (left_from asks q (used new q)) (sym (stays.head q t))

  within-other : (q : ℕ) → eqb q id ≡ false → Within q
  within-other q t m a h at =
      let same = stays.used q t in
      let l = are.within q m a (sym (stays.head q t) ∙ h) at in
      omega (arith, same, l)

  pub turned : AreTurns asks (one_more taken id) new
  turned = record {
    bursts = bursts;
    heads = heads;
    left = λ q. ⊎_elim (left-own q) (left-other q) (cases_Bool (eqb q id));
    within = λ q. ⊎_elim (λ (t : eqb q id ≡ true). subst Within (sym (eqb-true q id t)) own) (within-other q) (cases_Bool (eqb q id));
  }

-- the first of each ID
pub first-turns : (asks : List Address) (t : Turns) → AreHeads asks none_taken t.heads → ((q : ℕ) → used t q ≡ 0) → AreTurns asks none_taken t
first-turns asks t heads none = record {
  bursts = none_taken;
  heads = heads;
  left = λ id. turns-from id asks 0 (head t id) (sym (heads-advance.first id asks) ∙ sym (heads.heads id))
      ∙ ap (λ n. left_from asks id n (head t id)) (sym (none id));
  within = λ id m a h at. (let z = none id in omega (arith, z));
}

-- there is none
pub no-turn : (asks : List Address) (t : Turns) (id : ℕ) → left_at asks t id ≡ [] → TakesTurn asks t id t None
no-turn asks t id h taken are =
    let none = none-of (turns id asks) (taken id) (are.left id ∙ h) in (
      sym none.0,
      turned asks taken are.bursts t t id are are.heads (record { head = λ q e. refl; used = λ q e. refl })
          (none.1 ∙ sym h) (λ m a. are.within id m a),
    )

-- a table of counts with one set
abbrev pub IsCountSet : List (ℕ × ℕ) → List (ℕ × ℕ) → ℕ → ℕ → Type 0
IsCountSet old new id n = (q : ℕ) → count_in new q ≡ cond (eqb q id) n (count_in old q)

set-own : (old new : List (ℕ × ℕ)) (id n : ℕ) → IsCountSet old new id n → count_in new id ≡ n
set-own old new id n set = set id ∙ ap (λ b. cond b n (count_in old id)) (eq-eqb id id refl)

set-other : (old new : List (ℕ × ℕ)) (id n q : ℕ) → IsCountSet old new id n → eqb q id ≡ false → count_in new q ≡ count_in old q
set-other old new id n q set t = set q ∙ ap (λ b. cond b n (count_in old q)) t

left-of-some : (asks : List Address) (id m n : ℕ) (o : Option ℕ) (a : Address) → o ≡ Some m → slice_get asks m ≡ Some a
    → left_from asks id n o ≡ drop n (turns_of a) ++ turns id (drop (suc m) asks)
left-of-some asks id m n o a e at = ap (left_from asks id n) e ∙ ap (left_in asks id m n) at

-- the next of a burst
pub next-turn : (asks : List Address) (old new : Turns) (id m n : ℕ) (a : Address) → head old id ≡ Some m → slice_get asks m ≡ Some a
    → n ≡ used old id → n < a.beats - 1 → new.heads ≡ old.heads → IsCountSet old.used.numbers.entries new.used.numbers.entries id (n + 1)
    → TakesTurn asks old id new (Some (a.at, false))
next-turn asks old new id m n a is at e l same set taken are =
    let own : used new id ≡ n + 1 = set-own old.used.numbers.entries new.used.numbers.entries id (n + 1) set in
    let later = turns id (drop (suc m) asks) in
    let whole : drop (taken id) (turns id asks) ≡ (a.at, false) ∷ (drop (suc n) (turns_of a) ++ later) =
    are.left id ∙ ap (λ k. left_from asks id k (head old id)) (sym e) ∙ left-of-some asks id m n (head old id) a is at
    ∙ ap (λ xs. xs ++ later) (turn-on a n l) in
    let first = first-of (turns id asks) (taken id) (a.at, false) (drop (suc n) (turns_of a) ++ later) whole in
    let kept : head new id ≡ Some m = ap (λ (h : Heads). head_in h.heads.entries id) same ∙ is in (
      sym first.0,
      turned asks taken are.bursts old new id are (subst (AreHeads asks are.bursts) (sym same) are.heads)
          (record {
            head = λ q t. ap (λ (h : Heads). head_in h.heads.entries q) same;
            used = λ q t. set-other old.used.numbers.entries new.used.numbers.entries id (n + 1) q set t;
          })
          (first.1 ∙ ap (λ k. drop k (turns_of a) ++ later) (sym (add-one n)) ∙ ap (λ k. drop k (turns_of a) ++ later) (sym own)
          ∙ sym (left-of-some asks id m (used new id) (head new id) a kept at))
          (λ j b h there.
          let place : m ≡ j = same_Some m j (sym kept ∙ h) in
          let one : a ≡ b = same_Some a b (sym at ∙ ap (slice_get asks) place ∙ there) in
          let beats : a.beats ≡ b.beats = ap (λ (x : Address). x.beats) one in
          omega (arith, own, l, beats)),
    )

-- and its last
pub last-turn : (asks : List Address) (old new : Turns) (id m n : ℕ) (a : Address) (got : Option ℕ) → head old id ≡ Some m → slice_get asks m ≡ Some a
    → n ≡ used old id → a.beats - 1 ≤ n → Takes old.heads id new.heads got → IsCountSet old.used.numbers.entries new.used.numbers.entries id 0
    → TakesTurn asks old id new (Some (a.at, true))
last-turn asks old new id m n a got is at e l takes set taken are =
    let own : used new id ≡ 0 = set-own old.used.numbers.entries new.used.numbers.entries id 0 set in
    let later = turns id (drop (suc m) asks) in
    let less = are.within id m a is at in
    let end : n ≡ a.beats - 1 = omega (arith, e, l, less) in
    let whole : drop (taken id) (turns id asks) ≡ (a.at, true) ∷ later =
    are.left id ∙ ap (λ k. left_from asks id k (head old id)) (sym e) ∙ left-of-some asks id m n (head old id) a is at
    ∙ ap (λ xs. xs ++ later) (turn-end a n end) in
    let first = first-of (turns id asks) (taken id) (a.at, true) later whole in
    let heads = (takes asks are.bursts are.heads).1 in
    let nth : slice_get (numbers_with id asks) (are.bursts id) ≡ Some m = sym (are.heads.heads id) ∙ is in
    let next : next_with id (suc m) 0 asks ≡ head new id =
    ap (λ k. next_with id k 0 asks) (sym (add-one m)) ∙ sym (heads-advance.next id (are.bursts id) m asks nth)
    ∙ ap (slice_get (numbers_with id asks)) (sym (add-one (are.bursts id)))
    ∙ ap (λ b. slice_get (numbers_with id asks) (cond b (are.bursts id + 1) (are.bursts id))) (sym (eq-eqb id id refl))
    ∙ sym (heads.heads id) in (
      sym first.0,
      turned asks taken (one_more are.bursts id) old new id are heads
          (record {
            head = λ q t. heads.heads q ∙ ap (λ b. slice_get (numbers_with q asks) (cond b (are.bursts q + 1) (are.bursts q))) t ∙ sym (are.heads.heads q);
            used = λ q t. set-other old.used.numbers.entries new.used.numbers.entries id 0 q set t;
          })
          (first.1 ∙ turns-from id asks (suc m) (head new id) next ∙ ap (λ k. left_from asks id k (head new id)) (sym own))
          (λ j b h there. omega (arith, own)),
    )
