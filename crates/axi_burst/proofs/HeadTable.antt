-- The table of the next address of each ID.
use Rattle.std.proofs.Common.{◌≡◌, ℕ, zero, suc, ◌+◌, ◌-◌, ◌<◌, ◌≤◌, true, false, cond, eqb, List, [], ◌∷◌, ◌++◌, length}
use Rattle.std.proofs.Common.{slice_get, Option, None, Some, refl, ap, sym, ◌∙◌, ⊎_elim, add-one, arith, length-append}
use Rattle.std.proofs.lemmas.Bool.{cases_Bool, cases_lt, eqb-true}
use Rattle.std.proofs.lemmas.Option.{same_Some, slice_get_within}
use Rattle.trace_model.proofs.CountingLemmas.{slice_get-append_left, slice_get-last}
use Rattle.axi_burst.specs.declared.heads.Heads.{Heads}
use Rattle.axi_burst.specs.declared.transfers.Address.{Address}
use Rattle.axi_burst.specs.Bursts.{numbers_with}
use Rattle.axi_burst.specs.Heads.{next_with}
use Rattle.axi_burst.specs.HeadTable.{AreBuilt, AreHeads, Takes, head_in, joined, next_at, none_taken}
use Rattle.axi_burst.proofs.Ids.{swapped}
use Rattle.axi_burst.proofs.NextHead.{from-here, heads-advance, named, none-from}

-- ---- the table is made from the last address on
pub built-none : (asks : List Address) (es : List (ℕ × Option ℕ)) (nexts : List (Option ℕ)) → es ≡ [] → nexts ≡ [] → AreBuilt asks 0 es nexts
built-none asks es nexts e f = record {
  heads = λ id. (let l : 0 + length asks ≤ length asks - 0 = omega arith in
      ap (λ xs. head_in xs id) e ∙ sym (none-from id asks (length asks - 0) 0 l));
  long = ap length f;
  next = λ i a l h. absurd (omega (arith, l));
}

-- a table with one ID set
abbrev pub IsSet : List (ℕ × Option ℕ) → List (ℕ × Option ℕ) → ℕ → Option ℕ → Type 0
IsSet old new id head = (q : ℕ) → head_in new q ≡ cond (eqb q id) head (head_in old q)

pub built-on : (asks : List Address) (j k : ℕ) (es new : List (ℕ × Option ℕ)) (nexts more : List (Option ℕ)) (a : Address) (x : Option ℕ)
    → AreBuilt asks j es nexts → j < length asks → k ≡ length asks - 1 - j → slice_get asks k ≡ Some a → x ≡ head_in es a.id
    → IsSet es new a.id (Some k) → more ≡ nexts ++ x ∷ [] → AreBuilt asks (j + 1) new more
built-on asks j k es new nexts more a x b l is at head e f =
    let up : length asks - j ≡ k + 1 = omega (arith, l, is) in
    let down : k ≡ length asks - (j + 1) = omega (arith, l, is) in
    let own : k ≡ 0 + k = omega arith in
    record {
      heads = λ q. e q
          ∙ ap (λ t. cond t (Some k) (head_in es q)) (swapped q a.id)
          ∙ ap (λ o. cond (eqb a.id q) (Some k) o) (b.heads q ∙ ap (λ n. next_with q n 0 asks) up)
          ∙ sym (from-here q asks k 0 k a at own)
          ∙ ap (λ n. next_with q n 0 asks) down;
      long = ap length f ∙ length-append nexts (x ∷ []) ∙ ap (λ n. n + 1) b.long;
      next = λ i c m h. ⊎_elim
          (λ (below : i < j).
          let inside : i < length nexts = (let n = b.long in omega (arith, below, n)) in
          ap (λ xs. joined (slice_get xs i)) f
          ∙ ap joined (slice_get-append_left nexts (x ∷ []) i inside)
          ∙ b.next i c below h)
          (λ (above : j ≤ i).
          let same : i ≡ j = omega (arith, above, m) in
          let last : i ≡ length nexts = (let n = b.long in omega (arith, same, n)) in
          let place : k ≡ length asks - 1 - i = omega (arith, is, same) in
          let one : a ≡ c = same_Some a c (sym at ∙ ap (slice_get asks) place ∙ h) in
          ap (λ xs. joined (slice_get xs i)) f
          ∙ ap (λ n. joined (slice_get (nexts ++ x ∷ []) n)) last
          ∙ ap joined (slice_get-last nexts x)
          ∙ head ∙ b.heads a.id
          ∙ ap (λ (y : Address). next_with y.id (length asks - j) 0 asks) one
          ∙ ap (λ n. next_with c.id (length asks - n) 0 asks) (sym same))
          (cases_lt i j);
    }

pub built-all : (asks : List Address) (h : Heads) → AreBuilt asks (length asks) h.heads.entries h.next.items → AreHeads asks none_taken h
built-all asks h b = record {
  heads = λ id.
      let none : length asks - length asks ≡ 0 = omega arith in
      b.heads id ∙ ap (λ n. next_with id n 0 asks) none ∙ sym (heads-advance.first id asks);
  next = λ m a at.
      let l = slice_get_within asks m a at in
      let i = length asks - 1 - m in
      let long = b.long in
      let here : length h.next.items - 1 - m ≡ i = omega (arith, long) in
      let back : length asks - 1 - i ≡ m = omega (arith, l) in
      let less : i < length asks = omega (arith, l) in
      let behind : length asks - i ≡ m + 1 = omega (arith, l) in
      ap (λ n. joined (slice_get h.next.items n)) here
      ∙ b.next i a less (ap (slice_get asks) back ∙ at)
      ∙ ap (λ n. next_with a.id n 0 asks) behind;
}

-- ---- one is taken
none-after : {X : Type 0} (xs : List X) (k : ℕ) → slice_get xs k ≡ None → slice_get xs (suc k) ≡ None
none-after [] k h = refl
none-after (x ∷ xs) zero h = absurd (cc)
none-after (x ∷ xs) (suc k) h = none-after xs k h

pub taken-none : (h : Heads) (id : ℕ) → head_in h.heads.entries id ≡ None → Takes h id h None
taken-none h id is = λ asks taken are. (
  sym is ∙ are.heads id,
  record {
    heads = λ q. are.heads q ∙ ⊎_elim
        (λ (t : eqb q id ≡ true).
        let same = eqb-true q id t in
        let none : slice_get (numbers_with q asks) (taken q) ≡ None = sym (are.heads q) ∙ ap (head_in h.heads.entries) same ∙ is in
        none ∙ sym (none-after (numbers_with q asks) (taken q) none) ∙ ap (slice_get (numbers_with q asks)) (sym (add-one (taken q)))
        ∙ ap (λ b. slice_get (numbers_with q asks) (cond b (taken q + 1) (taken q))) (sym t))
        (λ (t : eqb q id ≡ false). ap (λ b. slice_get (numbers_with q asks) (cond b (taken q + 1) (taken q))) (sym t))
        (cases_Bool (eqb q id));
    next = are.next;
  },
)

behind-own : (asks : List Address) (taken : ℕ → ℕ) (h : Heads) (id m : ℕ) → AreHeads asks taken h → head_in h.heads.entries id ≡ Some m
    → next_at h.next.items m ≡ slice_get (numbers_with id asks) (taken id + 1)
behind-own asks taken h id m are is =
    let at : slice_get (numbers_with id asks) (taken id) ≡ Some m = sym (are.heads id) ∙ is in
    let r = named id asks 0 (taken id) m at in
    let place : m ≡ r.place = (let e = r.number in omega (arith, e)) in
    are.next m r.a (ap (slice_get asks) place ∙ r.here)
    ∙ ap (λ i. next_with i (m + 1) 0 asks) r.same
    ∙ sym (heads-advance.next id (taken id) m asks at)
    ∙ ap (slice_get (numbers_with id asks)) (sym (add-one (taken id)))

pub taken-some : (old new : Heads) (id m : ℕ) → head_in old.heads.entries id ≡ Some m
    → IsSet old.heads.entries new.heads.entries id (next_at old.next.items m) → new.next.items ≡ old.next.items
    → Takes old id new (Some m)
taken-some old new id m is e f = λ asks taken are. (
  sym is ∙ are.heads id,
  record {
    heads = λ q. e q ∙ ⊎_elim
        (λ (t : eqb q id ≡ true).
        ap (λ b. cond b (next_at old.next.items m) (head_in old.heads.entries q)) t
        ∙ behind-own asks taken old id m are is
        ∙ ap (λ i. slice_get (numbers_with i asks) (taken i + 1)) (sym (eqb-true q id t))
        ∙ ap (λ b. slice_get (numbers_with q asks) (cond b (taken q + 1) (taken q))) (sym t))
        (λ (t : eqb q id ≡ false).
        ap (λ b. cond b (next_at old.next.items m) (head_in old.heads.entries q)) t
        ∙ are.heads q
        ∙ ap (λ b. slice_get (numbers_with q asks) (cond b (taken q + 1) (taken q))) (sym t))
        (cases_Bool (eqb q id));
    next = λ n a at. ap (λ xs. next_at xs n) f ∙ are.next n a at;
  },
)
