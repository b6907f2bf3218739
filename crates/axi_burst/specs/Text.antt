-- The lines of bursts (this project's profile). Numbers are decimal.
use Rattle.std.specs.Prelude.{ℕ, ◌++◌, Bool, true, false, List, [], ◌∷◌, take, count_by, codes, decimal}
use Rattle.std.specs.List.{flat_map, enumerate_from}
use Rattle.axi_burst.specs.declared.axi.Burst.{Burst}
use Rattle.axi_burst.specs.Kinds.{same}

abbrev pub newline : List ℕ
newline = 10 ∷ []

abbrev pub kind_text : Bool → List ℕ
kind_text true = codes "write "
kind_text false = codes "read "

abbrev pub done_text : Bool → List ℕ
done_text true = codes " done" ++ newline
done_text false = codes " open" ++ newline

-- `write J id I addr A beats N done` or `read J id I addr A beats N open`
abbrev pub burst_line : ℕ → Burst → List ℕ
burst_line number b = kind_text b.write ++ (decimal number ++ (codes " id " ++ (decimal b.id ++ (codes " addr " ++ (decimal b.addr
    ++ (codes " beats " ++ (decimal b.beats ++ done_text b.done)))))))

-- how many are writes, or reads
abbrev pub count_of : Bool → List Burst → ℕ
count_of write bursts = count_by (λ (b : Burst). same write b.write) bursts

-- `writes N reads N`
abbrev pub counts_line : ℕ → ℕ → List ℕ
counts_line writes reads = codes "writes " ++ (decimal writes ++ (codes " reads " ++ (decimal reads ++ newline)))

-- the line of a burst, with its number among those of its kind
abbrev pub numbered_line : List Burst → ℕ × Burst → List ℕ
numbered_line bursts x = burst_line (count_of x.1.write (take x.0 bursts)) x.1

-- a line for each burst, and one with how many there are of each kind
abbrev pub burst_text : List Burst → List ℕ
burst_text bursts = flat_map (numbered_line bursts) (enumerate_from 0 bursts) ++ counts_line (count_of true bursts) (count_of false bursts)
