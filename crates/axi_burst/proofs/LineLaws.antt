-- The lines of bursts, one after the other.
use Rattle.std.proofs.Common.{◌≡◌, ℕ, ◌+◌, ◌<◌, ◌≤◌, Bool, true, false, not, cond, List, ◌++◌, length, take, get_or, refl, ap, sym, ◌∙◌}
use mir.Val.{bool_byte}
use Rattle.std.specs.List.{flat_map, enumerate_from}
use Rattle.std.proofs.lemmas.List.{take_all}
use Rattle.std.proofs.lemmas.List.Sums.{sum_by_more}
use Rattle.axi_burst.specs.declared.axi.Burst.{Burst}
use Rattle.axi_burst.specs.Kinds.{same}
use Rattle.axi_burst.specs.Text.{burst_text, count_of, counts_line, numbered_line}

as-count : (b : Bool) → bool_byte b ≡ cond b 1 0
as-count true = refl
as-count false = refl

module _ (bursts : List Burst) (i : ℕ) (d : Burst) (l : i < length bursts) where
  abbrev b : Burst
  b = get_or bursts i d

  count-more : (write : Bool) (n : ℕ) → n ≡ count_of write (take i bursts) → n + cond (same write b.write) 1 0 ≡ count_of write (take (i + 1) bursts)
  count-more write n e =
      ap (λ m. m + cond (same write b.write) 1 0) e ∙ sym (sum_by_more (λ (x : Burst). cond (same write x.write) 1 0) bursts i d l)

  pub writes-more : (n : ℕ) → n ≡ count_of true (take i bursts) → n + bool_byte b.write ≡ count_of true (take (i + 1) bursts)
  writes-more n e = ap (λ m. n + m) (as-count b.write) ∙ count-more true n e

  pub reads-more : (n : ℕ) → n ≡ count_of false (take i bursts) → n + bool_byte (not b.write) ≡ count_of false (take (i + 1) bursts)
  reads-more n e = ap (λ m. n + m) (as-count (not b.write)) ∙ count-more false n e

-- the number of a burst behind so many writes and reads
pub number-there : (front : List Burst) (write : Bool) (writes reads : ℕ) → writes ≡ count_of true front → reads ≡ count_of false front
    → cond write writes reads ≡ count_of write front
number-there front true writes reads e f = e
number-there front false writes reads e f = f

-- behind all of them
pub text-done : (bursts : List Burst) (i writes reads : ℕ) → length bursts ≤ i → writes ≡ count_of true (take i bursts)
    → reads ≡ count_of false (take i bursts)
    → flat_map (numbered_line bursts) (enumerate_from 0 (take i bursts)) ++ counts_line writes reads ≡ burst_text bursts
text-done bursts i writes reads l e f =
    let all = take_all i bursts l in
    let lines = flat_map (numbered_line bursts) (enumerate_from 0 bursts) in
    ap (λ (xs : List Burst). flat_map (numbered_line bursts) (enumerate_from 0 xs) ++ counts_line writes reads) all
    ∙ ap (λ n. lines ++ counts_line n reads) (e ∙ ap (count_of true) all)
    ∙ ap (λ n. lines ++ counts_line (count_of true bursts) n) (f ∙ ap (count_of false) all)
