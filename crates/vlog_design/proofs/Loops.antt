-- Designs of one file read and write the same bits, driver by driver.
use Rattle.std.proofs.Common.{◌≡◌, ℕ, zero, suc, List, [], ◌∷◌, refl, sym, ◌∙◌}
use Rattle.std.specs.List.{AllZip}
use Rattle.vlog_tree.specs.Tree.{FileOf}
use Rattle.net_design.specs.declared.design.Design.{Design}
use Rattle.net_design.specs.declared.design.Driver.{Driver}
use Rattle.net_design.specs.Bits.{named}
use Rattle.net_order.specs.Order.{reads_of, writes_of, Reads, last_of, Chain, IsLoopBy, IsOrder, IsLoop}
use Rattle.flat_drivers.specs.Duties.{Duty, Assigns, Settles, Does}
use Rattle.vlog_design.specs.Design.{IsDesignOf}
use Rattle.vlog_design.specs.Laws.{LoopsAlike}

reads-alike : (u : Duty) (x y : Driver) → Does u x → Does u y → (m k : ℕ) → named x.code.reads m k ≡ named y.code.reads m k
reads-alike (Assigns line to target from e) x y a b m k = a.reads m k ∙ sym (b.reads m k)
reads-alike (Settles p s) x y a b m k = a.reads m k ∙ sym (b.reads m k)

writes-alike : (u : Duty) (x y : Driver) → Does u x → Does u y → (m k : ℕ) → named x.code.writes m k ≡ named y.code.writes m k
writes-alike (Assigns line to target from e) x y a b m k = a.writes m k ∙ sym (b.writes m k)
writes-alike (Settles p s) x y a b m k = a.writes m k ∙ sym (b.writes m k)

all-read-alike : (us : List Duty) (xs ys : List Driver) → AllZip Does us xs → AllZip Does us ys → (i m k : ℕ)
    → reads_of xs i m k ≡ reads_of ys i m k
all-read-alike [] [] [] a b i m k = refl
all-read-alike (u ∷ us) (x ∷ xs) (y ∷ ys) a b zero m k = reads-alike u x y a.0 b.0 m k
all-read-alike (u ∷ us) (x ∷ xs) (y ∷ ys) a b (suc i) m k = all-read-alike us xs ys a.1 b.1 i m k
all-read-alike [] (x ∷ xs) ys a b i m k = absurd a
all-read-alike [] [] (y ∷ ys) a b i m k = absurd b
all-read-alike (u ∷ us) [] ys a b i m k = absurd a
all-read-alike (u ∷ us) (x ∷ xs) [] a b i m k = absurd b

all-write-alike : (us : List Duty) (xs ys : List Driver) → AllZip Does us xs → AllZip Does us ys → (i m k : ℕ)
    → writes_of xs i m k ≡ writes_of ys i m k
all-write-alike [] [] [] a b i m k = refl
all-write-alike (u ∷ us) (x ∷ xs) (y ∷ ys) a b zero m k = writes-alike u x y a.0 b.0 m k
all-write-alike (u ∷ us) (x ∷ xs) (y ∷ ys) a b (suc i) m k = all-write-alike us xs ys a.1 b.1 i m k
all-write-alike [] (x ∷ xs) ys a b i m k = absurd a
all-write-alike [] [] (y ∷ ys) a b i m k = absurd b
all-write-alike (u ∷ us) [] ys a b i m k = absurd a
all-write-alike (u ∷ us) (x ∷ xs) [] a b i m k = absurd b

-- one driver reads another in both
same-reads : (file : FileOf ℕ) (top : List ℕ) (d e : Design) → IsDesignOf file top d → IsDesignOf file top e → (i j : ℕ)
    → Reads d i j → Reads e i j
same-reads file top d e a b i j (m, k, reads, writes) = (
  m,
  k,
  all-read-alike _ e.drivers d.drivers b.built.drivers a.built.drivers i m k ∙ reads,
  all-write-alike _ e.drivers d.drivers b.built.drivers a.built.drivers j m k ∙ writes,
)

chain-alike : (R S : ℕ → ℕ → Type 0) → ((i j : ℕ) → R i j → S i j) → (x : ℕ) (ds : List ℕ) → Chain R x ds → Chain S x ds
chain-alike R S on x [] c = tt
chain-alike R S on x (i ∷ rest) (r, c) = (on i x r, chain-alike R S on i rest c)

loop-alike : (R S : ℕ → ℕ → Type 0) → ((i j : ℕ) → R i j → S i j) → (ds : List ℕ) → IsLoopBy R ds → IsLoopBy S ds
loop-alike R S on ds l =
    record { some = l.some; chain = chain-alike R S on (last_of 0 ds) ds l.chain; once = l.once; least = l.least }

pub loops-alike : ((d : Design) (order drivers : List ℕ) → IsOrder d order → IsLoop d drivers → ⊥) → LoopsAlike
loops-alike apart file top d e a b loop order is ordered =
    apart e order loop ordered (loop-alike (Reads d) (Reads e) (same-reads file top d e a b) loop is)
