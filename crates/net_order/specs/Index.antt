-- Who writes bits of each net, found through masks, and so who reads whom.
use Rattle.std.specs.Prelude.{◌≡◌, ℕ, ◌==◌, ◌&&◌, not, Bool, List, bit_and}
use Rattle.std.specs.List.{list_any, AllZip}
use Rattle.net_design.specs.declared.act.Mask.{Mask}
use Rattle.net_design.specs.declared.design.Driver.{Driver}
use Rattle.vidi_bits.specs.Number.{has}
use Rattle.net_design.specs.Names.{list_at}
use Rattle.net_order.specs.declared.writers.Writer.{Writer}
use Rattle.net_order.specs.Graph.{Graph}

-- two masks have a bit in common
abbrev pub meets : ℕ → ℕ → Bool
meets a b = not (bit_and a b == 0)

-- the writers of net m say that driver j writes its bit k
abbrev pub listed : List (List Writer) → ℕ → ℕ → ℕ → Bool
listed writers m j k = list_any (λ (w : Writer). (w.driver == j) && has w.bits k) (list_at writers m)

-- j is one of the writers, and writes some of the bits
abbrev pub met : ℕ → List Writer → ℕ → Bool
met bits writers j = list_any (λ (w : Writer). (w.driver == j) && meets bits w.bits) writers

-- j is a writer of some bit that the masks name
abbrev pub found : List (List Writer) → List Mask → ℕ → Bool
found writers reads j = list_any (λ (x : Mask). met x.bits (list_at writers x.net) j) reads

-- the list has j
abbrev pub in_row : List ℕ → ℕ → Bool
in_row row j = list_any (λ (i : ℕ). i == j) row

-- each row lists those that are found to write what its driver reads
abbrev pub IsRow : List (List Writer) → Driver → List ℕ → Type 0
IsRow writers x row = (j : ℕ) → in_row row j ≡ found writers x.code.reads j

abbrev pub AreRows : List (List Writer) → List Driver → Graph → Type 0
AreRows writers drivers graph = AllZip (IsRow writers) drivers graph
