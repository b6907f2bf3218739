-- Tables by ID, one beat after the other.
use Rattle.std.proofs.Common.{◌≡◌, ℕ, ◌+◌, ◌<◌, Bool, true, false, cond, eqb, List, length, take, drop, get_or}
use Rattle.std.proofs.Common.{slice_get, count_by, refl, ap, sym, ◌∙◌, add-zero}
use Rattle.std.proofs.lemmas.List.{take_more}
use Rattle.trace_model.proofs.CountingLemmas.{count-push}
use Rattle.axi_burst.specs.declared.heads.Heads.{Heads}
use Rattle.axi_burst.specs.declared.transfers.Address.{Address}
use Rattle.axi_burst.specs.declared.transfers.Beat.{Beat}
use Rattle.axi_burst.specs.declared.turns.Turns.{Turns}
use Rattle.axi_burst.specs.Bursts.{numbers_with, turns}
use Rattle.axi_burst.specs.HeadTable.{AreHeads, one_more}
use Rattle.axi_burst.specs.Passes.{taken_to}
use Rattle.axi_burst.specs.TurnTable.{AreTurns}
use Rattle.axi_burst.proofs.Ids.{swapped}

by_test : (b : Bool) (n : ℕ) → cond b (n + 1) n ≡ n + cond b 1 0
by_test true n = refl
by_test false n = sym (add-zero n)

module _ (asks : List Address) (xs : List Beat) (i : ℕ) (d : Beat) (l : i < length xs) where
  -- one beat more is one more with its ID
  more-taken : (q : ℕ) → one_more (taken_to i xs) (get_or xs i d).id q ≡ taken_to (i + 1) xs q
  more-taken q =
      let front = count_by (λ (y : Beat). eqb y.id q) (take i xs) in
      let x = get_or xs i d in
      ap (λ b. cond b (front + 1) front) (swapped q x.id) ∙ by_test (eqb x.id q) front
      ∙ sym (count-push (λ (y : Beat). eqb y.id q) (take i xs) x) ∙ ap (count_by (λ (y : Beat). eqb y.id q)) (sym (take_more xs i d l))

  pub heads-on : (h : Heads) → AreHeads asks (one_more (taken_to i xs) (get_or xs i d).id) h → AreHeads asks (taken_to (i + 1) xs) h
  heads-on h are = record {
    heads = λ q. are.heads q ∙ ap (slice_get (numbers_with q asks)) (more-taken q);
    next = are.next;
  }

  pub turns-on : (t : Turns) → AreTurns asks (one_more (taken_to i xs) (get_or xs i d).id) t → AreTurns asks (taken_to (i + 1) xs) t
  turns-on t are = record {
    bursts = are.bursts;
    heads = are.heads;
    left = λ q. ap (λ n. drop n (turns q asks)) (sym (more-taken q)) ∙ are.left q;
    within = are.within;
  }
