-- Heads of an ID, one after the other.
use Rattle.std.proofs.Common.{◌≡◌, ℕ, zero, suc, ◌+◌, ◌==◌, ◌≤◌, ◌<◌, ◌&&◌, true, false, cond, eqb, leb, List, [], ◌∷◌, length, map, slice_get, None, Some}
use Rattle.std.proofs.Common.{refl, ap, sym, ◌∙◌, ⊎_elim, arith, le-leb}
use Rattle.std.specs.List.{filter, enumerate_from}
use Rattle.std.proofs.lemmas.Bool.{cases_Bool, cond-true, cond-false, eqb-true, lt-leb}
use Rattle.std.proofs.lemmas.Option.{same_Some}
use Rattle.trace_model.proofs.vidi_bits_lemmas.Bools.{and_true}
use Rattle.axi_burst.specs.declared.transfers.Address.{Address}
use Rattle.axi_burst.specs.Heads.{next_with, HeadsAdvance}

module _ (id : ℕ) where
  abbrev numbers : ℕ → List Address → List ℕ
  numbers n asks = map (λ (x : ℕ × Address). x.0) (filter (λ (x : ℕ × Address). x.1.id == id) (enumerate_from n asks))

  yes : (n : ℕ) (a : Address) (asks : List Address) → eqb a.id id ≡ true → numbers n (a ∷ asks) ≡ n ∷ numbers (n + 1) asks
  yes n a asks t = ap (map (λ (x : ℕ × Address). x.0)) (cond-true (eqb a.id id)
      ((n, a) ∷ filter (λ (x : ℕ × Address). x.1.id == id) (enumerate_from (n + 1) asks))
      (filter (λ (x : ℕ × Address). x.1.id == id) (enumerate_from (n + 1) asks)) t)

  no : (n : ℕ) (a : Address) (asks : List Address) → eqb a.id id ≡ false → numbers n (a ∷ asks) ≡ numbers (n + 1) asks
  no n a asks t = ap (map (λ (x : ℕ × Address). x.0)) (cond-false (eqb a.id id)
      ((n, a) ∷ filter (λ (x : ℕ × Address). x.1.id == id) (enumerate_from (n + 1) asks))
      (filter (λ (x : ℕ × Address). x.1.id == id) (enumerate_from (n + 1) asks)) t)

  -- a head that counts, and one that doesn't
  pub here : (k n : ℕ) (a : Address) (asks : List Address) → eqb a.id id ≡ true → k ≤ n → next_with id k n (a ∷ asks) ≡ Some n
  here k n a asks t l = cond-true (eqb a.id id && leb k n) (Some n) (next_with id k (n + 1) asks)
      (ap (λ b. b && leb k n) t ∙ le-leb k n l)

  pub other : (k n : ℕ) (a : Address) (asks : List Address) → eqb a.id id ≡ false → next_with id k n (a ∷ asks) ≡ next_with id k (n + 1) asks
  other k n a asks t = cond-false (eqb a.id id && leb k n) (Some n) (next_with id k (n + 1) asks) (ap (λ b. b && leb k n) t)

  pub past : (k n : ℕ) (a : Address) (asks : List Address) → n < k → next_with id k n (a ∷ asks) ≡ next_with id k (n + 1) asks
  past k n a asks l = ⊎_elim
      (λ (t : eqb a.id id ≡ true). cond-false (eqb a.id id && leb k n) (Some n) (next_with id k (n + 1) asks)
      (ap (λ b. b && leb k n) t ∙ lt-leb k n l))
      (λ (t : eqb a.id id ≡ false). other k n a asks t)
      (cases_Bool (eqb a.id id))

  first-from : (asks : List Address) (n k : ℕ) → k ≤ n → slice_get (numbers n asks) 0 ≡ next_with id k n asks
  first-from [] n k l = refl
  first-from (a ∷ asks) n k l = ⊎_elim
      (λ (t : eqb a.id id ≡ true). ap (λ xs. slice_get xs 0) (yes n a asks t) ∙ sym (here k n a asks t l))
      (λ (t : eqb a.id id ≡ false). ap (λ xs. slice_get xs 0) (no n a asks t) ∙ first-from asks (n + 1) k (omega (arith, l))
      ∙ sym (other k n a asks t))
      (cases_Bool (eqb a.id id))

  pub record Goes (n y m : ℕ) (asks : List Address) : Type 0 where
    pub above : n ≤ m
    pub next : slice_get (numbers n asks) (suc y) ≡ next_with id (m + 1) n asks

  next-yes : (n y m : ℕ) (a : Address) (asks : List Address)
      → ((z : ℕ) → slice_get (numbers (n + 1) asks) z ≡ Some m → Goes (n + 1) z m asks)
      → eqb a.id id ≡ true → slice_get (n ∷ numbers (n + 1) asks) y ≡ Some m → Goes n y m (a ∷ asks)
  next-yes n zero m a asks ih t at =
      let same : n ≡ m = same_Some n m at in
      record {
        above = omega (arith, same);
        next = ap (λ xs. slice_get xs 1) (yes n a asks t) ∙ first-from asks (n + 1) (m + 1) (omega (arith, same))
            ∙ sym (past (m + 1) n a asks (omega (arith, same)));
      }
  next-yes n (suc y) m a asks ih t at =
      let g = ih y at in
      record {
        above = (let u = g.above in omega (arith, u));
        next = ap (λ xs. slice_get xs (suc (suc y))) (yes n a asks t) ∙ g.next ∙ sym (past (m + 1) n a asks (let u = g.above in omega (arith, u)));
      }

  goes : (asks : List Address) (n y m : ℕ) → slice_get (numbers n asks) y ≡ Some m → Goes n y m asks
  goes [] n y m at = absurd cc
  goes (a ∷ asks) n y m at = ⊎_elim
      (λ (t : eqb a.id id ≡ true). next-yes n y m a asks (λ z h. goes asks (n + 1) z m h) t (sym (ap (λ xs. slice_get xs y) (yes n a asks t)) ∙ at))
      (λ (t : eqb a.id id ≡ false).
      let g = goes asks (n + 1) y m (sym (ap (λ xs. slice_get xs y) (no n a asks t)) ∙ at) in
      record {
        above = (let u = g.above in omega (arith, u));
        next = ap (λ xs. slice_get xs (suc y)) (no n a asks t) ∙ g.next ∙ sym (other (m + 1) n a asks t);
      })
      (cases_Bool (eqb a.id id))

  -- ---- the addresses that have the ID
  pub record Named (n m : ℕ) (asks : List Address) : Type 0 where
    pub place : ℕ
    pub number : m ≡ n + place
    pub a : Address
    pub here : slice_get asks place ≡ Some a
    pub same : a.id ≡ id

  named-later : (n m : ℕ) (b : Address) (asks : List Address) → Named (n + 1) m asks → Named n m (b ∷ asks)
  named-later n m b asks r = record {
    place = suc r.place;
    number = (let e = r.number in omega (arith, e));
    a = r.a;
    here = r.here;
    same = r.same;
  }

  named-yes : (n y m : ℕ) (a : Address) (asks : List Address) → ((z : ℕ) → slice_get (numbers (n + 1) asks) z ≡ Some m → Named (n + 1) m asks)
      → eqb a.id id ≡ true → slice_get (n ∷ numbers (n + 1) asks) y ≡ Some m → Named n m (a ∷ asks)
  named-yes n zero m a asks ih t at = record {
    place = 0;
    number = (let e : n ≡ m = same_Some n m at in omega (arith, e));
    a = a;
    here = refl;
    same = eqb-true a.id id t;
  }
  named-yes n (suc y) m a asks ih t at = named-later n m a asks (ih y at)

  pub named : (asks : List Address) (n y m : ℕ) → slice_get (numbers n asks) y ≡ Some m → Named n m asks
  named [] n y m at = absurd cc
  named (a ∷ asks) n y m at = ⊎_elim
      (λ (t : eqb a.id id ≡ true). named-yes n y m a asks (λ z h. named asks (n + 1) z m h) t (sym (ap (λ xs. slice_get xs y) (yes n a asks t)) ∙ at))
      (λ (t : eqb a.id id ≡ false). named-later n m a asks (named asks (n + 1) y m (sym (ap (λ xs. slice_get xs y) (no n a asks t)) ∙ at)))
      (cases_Bool (eqb a.id id))

  -- ---- from a number on
  pub low : (asks : List Address) (k l n : ℕ) → k ≤ n → l ≤ n → next_with id k n asks ≡ next_with id l n asks
  low [] k l n p q = refl
  low (a ∷ asks) k l n p q =
      let r : k ≤ n + 1 = omega arith in
      let s : l ≤ n + 1 = omega arith in
      ap (λ b. cond (eqb a.id id && b) (Some n) (next_with id k (n + 1) asks)) (le-leb k n p ∙ sym (le-leb l n q))
      ∙ ap (λ x. cond (eqb a.id id && leb l n) (Some n) x) (low asks k l (n + 1) r s)

  pub from-here : (asks : List Address) (k n j : ℕ) (a : Address) → slice_get asks j ≡ Some a → k ≡ n + j
      → next_with id k n asks ≡ cond (eqb a.id id) (Some k) (next_with id (k + 1) n asks)
  from-here [] k n j a at e = absurd cc
  from-here (b ∷ asks) k n zero a at e =
      let same : b ≡ a = same_Some b a at in
      let is : k ≡ n = omega (arith, e) in
      let up : n < k + 1 = omega (arith, is) in
      let in_reach : k ≤ n = omega (arith, is) in
      let p : k ≤ n + 1 = omega (arith, is) in
      let q : k + 1 ≤ n + 1 = omega (arith, is) in
      ap (λ t. cond (eqb b.id id && t) (Some n) (next_with id k (n + 1) asks)) (le-leb k n in_reach)
      ∙ ap (λ t. cond t (Some n) (next_with id k (n + 1) asks)) (sym (and_true (eqb b.id id)))
      ∙ ap (λ x. cond (eqb b.id id) x (next_with id k (n + 1) asks)) (ap (λ (i : ℕ). Some i) (sym is))
      ∙ ap (λ x. cond (eqb b.id id) (Some k) x) (low asks k (k + 1) (n + 1) p q ∙ sym (past (k + 1) n b asks up))
      ∙ ap (λ (x : Address). cond (eqb x.id id) (Some k) (next_with id (k + 1) n (b ∷ asks))) same
  from-here (b ∷ asks) k n (suc j) a at e =
      let up : n < k = omega (arith, e) in
      let more : n < k + 1 = omega (arith, e) in
      let there : k ≡ (n + 1) + j = omega (arith, e) in
      past k n b asks up ∙ from-here asks k (n + 1) j a at there
      ∙ ap (λ x. cond (eqb a.id id) (Some k) x) (sym (past (k + 1) n b asks more))

  pub none-from : (asks : List Address) (k n : ℕ) → n + length asks ≤ k → next_with id k n asks ≡ None
  none-from [] k n l = refl
  none-from (a ∷ asks) k n l =
      let up : n < k = omega (arith, l) in
      let more : (n + 1) + length asks ≤ k = omega (arith, l) in
      past k n a asks up ∙ none-from asks k (n + 1) more

pub heads-advance : HeadsAdvance
heads-advance = record {
  first = λ id asks. first-from id asks 0 0 (omega arith);
  next = λ id y m asks at. (goes id asks 0 y m at).next;
}
