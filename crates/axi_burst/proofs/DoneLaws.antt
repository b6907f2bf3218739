-- Bursts, one address after the other.
use Rattle.std.proofs.Common.{◌≡◌, ℕ, ◌+◌, ◌-◌, ◌<◌, ◌≤◌, Bool, true, false, cond, eqb, leb, List, [], ◌∷◌, ◌++◌, length, take, drop, get_or, refl, ap, sym, ◌∙◌}
use Rattle.std.proofs.Common.{⊎_elim, append_assoc, arith}
use Rattle.std.proofs.lemmas.Bool.{cases_lt, eq-eqb, le-leb, lt-leb}
use Rattle.std.proofs.lemmas.List.{drop_more}
use Rattle.std.proofs.lemmas.List.Sums.{sum_by_more}
use Rattle.axi_burst.specs.declared.axi.Burst.{Burst}
use Rattle.axi_burst.specs.declared.transfers.Address.{Address}
use Rattle.axi_burst.specs.declared.transfers.Beat.{Beat}
use Rattle.axi_burst.specs.Bursts.{burst_of, bursts_from, count_with, is_done, needed, needed_with}
use Rattle.axi_burst.proofs.Ids.{swapped}

-- so many are left of those that are there exactly where they and those that are taken are there
leb-left : (n before all : ℕ) → 1 ≤ n → leb n (all - before) ≡ leb (before + n) all
leb-left n before all l = ⊎_elim
    (λ (less : all < before + n). lt-leb n (all - before) (omega (arith, less, l)) ∙ sym (lt-leb (before + n) all less))
    (λ (more : before + n ≤ all). le-leb n (all - before) (omega (arith, more)) ∙ sym (le-leb (before + n) all more))
    (cases_lt all (before + n))

pub needed-some : (write : Bool) (a : Address) → 1 ≤ a.beats → 1 ≤ needed write a
needed-some true a l = omega arith
needed-some false a l = l

module _ (write : Bool) (asks : List Address) (answers : List Beat) (i : ℕ) (d : Address) (l : i < length asks) where
  abbrev a : Address
  a = get_or asks i d

  needed-more : (q : ℕ) → needed_with write q (take (i + 1) asks) ≡ needed_with write q (take i asks) + cond (eqb a.id q) (needed write a) 0
  needed-more q = sum_by_more (λ (x : Address). cond (eqb x.id q) (needed write x) 0) asks i d l

  pub done-here : (left : ℕ) → 1 ≤ a.beats → left ≡ count_with a.id answers - needed_with write a.id (take i asks)
      → leb (needed write a) left ≡ is_done write asks answers i a
  done-here left some e =
      ap (leb (needed write a)) e
      ∙ leb-left (needed write a) (needed_with write a.id (take i asks)) (count_with a.id answers) (needed-some write a some)
      ∙ ap (λ n. leb n (count_with a.id answers))
      (ap (λ b. needed_with write a.id (take i asks) + cond b (needed write a) 0) (sym (eq-eqb a.id a.id refl)) ∙ sym (needed-more a.id))

  pub left-on : (q old new : ℕ) → old ≡ count_with q answers - needed_with write q (take i asks) → new ≡ old - cond (eqb q a.id) (needed write a) 0
      → new ≡ count_with q answers - needed_with write q (take (i + 1) asks)
  left-on q old new e f =
      let same = ap (λ b. cond b (needed write a) 0) (swapped q a.id) in
      let more = needed-more q in
      omega (arith, e, f, same, more)

  pub bursts-on : (front new all : List Burst) (b : Burst) → front ++ bursts_from write asks answers i (drop i asks) ≡ all
      → b ≡ burst_of write a (is_done write asks answers i a) → new ≡ front ++ b ∷ []
      → new ++ bursts_from write asks answers (i + 1) (drop (i + 1) asks) ≡ all
  bursts-on front new all b so_far e push =
      let rest = bursts_from write asks answers (i + 1) (drop (i + 1) asks) in
      ap (λ (xs : List Burst). xs ++ rest) push ∙ append_assoc front (b ∷ []) rest ∙ ap (λ (x : Burst). front ++ x ∷ rest) e
      ∙ ap (λ xs. front ++ bursts_from write asks answers i xs) (sym (drop_more asks i d l)) ∙ so_far
