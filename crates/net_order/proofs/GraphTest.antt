-- Lists of numbers below a limit.
use Rattle.std.proofs.Common.{ℕ, zero, suc, ◌<◌, List, [], ◌∷◌}
use Rattle.std.specs.Prelude.{All}
use Rattle.std.specs.List.{Contains, AllByRecursion}
use Rattle.std.proofs.lemmas.List.Elements.{All-contains, recursion_from_All}
use Rattle.vidi_bits.proofs.Lists.{none_in}
use Rattle.net_design.specs.Names.{list_at}

-- each number of each list is below the limit
pub below_in : (n : ℕ) (g : List (List ℕ)) → AllByRecursion (λ (row : List ℕ). All (λ (j : ℕ). j < n) row) g
    → (i j : ℕ) → Contains (list_at g i) j → j < n
below_in n [] r i j c = absurd (none_in j c)
below_in n (row ∷ rest) r zero j c = All-contains (λ (j : ℕ). j < n) row j r.0 c
below_in n (row ∷ rest) r (suc i) j c = below_in n rest r.1 i j c

pub all_below_in : (n : ℕ) (g : List (List ℕ)) → All (λ (row : List ℕ). All (λ (j : ℕ). j < n) row) g
    → (i j : ℕ) → Contains (list_at g i) j → j < n
all_below_in n g a = below_in n g (recursion_from_All _ g a)
