-- The last beat of each burst.
use Rattle.std.proofs.Common.{◌≡◌, ℕ, ◌+◌, ◌-◌, ◌<◌, ◌≤◌, List, [], ◌∷◌, ◌++◌, Some, length, get_or, slice_get, ap, sym, ◌∙◌, ⊎_elim, arith, length-append}
use Rattle.std.proofs.lemmas.Bool.{cases_lt}
use Rattle.std.proofs.lemmas.List.Sums.{sum_by_more}
use Rattle.trace_model.proofs.CountingLemmas.{slice_get-append_left, slice_get-last}
use Rattle.axi_burst.specs.declared.transfers.Address.{Address}
use Rattle.axi_burst.specs.Bursts.{beats_to}
use Rattle.axi_burst.specs.Passes.{AreLast}

pub beats-more : (asks : List Address) (i : ℕ) (d : Address) → i < length asks → beats_to (i + 1) asks ≡ beats_to i asks + (get_or asks i d).beats
beats-more asks i d l = sum_by_more (λ (a : Address). a.beats) asks i d l

pub last-more : (asks : List Address) (i x : ℕ) (lasts new : List ℕ) → AreLast asks i lasts → new ≡ lasts ++ x ∷ [] → x ≡ beats_to (i + 1) asks - 1
    → AreLast asks (i + 1) new
last-more asks i x lasts new are e f = record {
  long = ap length e ∙ length-append lasts (x ∷ []) ∙ ap (λ n. n + 1) are.long;
  each = λ m l. ⊎_elim
      (λ (below : m < i).
      let inside : m < length lasts = (let n = are.long in omega (arith, below, n)) in
      ap (λ xs. slice_get xs m) e ∙ slice_get-append_left lasts (x ∷ []) m inside ∙ are.each m below)
      (λ (above : i ≤ m).
      let same : m ≡ i = omega (arith, above, l) in
      let last : m ≡ length lasts = (let n = are.long in omega (arith, same, n)) in
      ap (λ xs. slice_get xs m) e ∙ ap (slice_get (lasts ++ x ∷ [])) last ∙ slice_get-last lasts x
      ∙ ap (λ (y : ℕ). Some y) (f ∙ ap (λ n. beats_to (n + 1) asks - 1) (sym same)))
      (cases_lt m i);
}
