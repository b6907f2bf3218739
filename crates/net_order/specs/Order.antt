-- Orders of a design's drivers, and loops of them ("Reasons": E10; this project's profile). A driver is named by its number.
use Rattle.std.specs.Prelude.{◌≡◌, ℕ, zero, suc, ◌++◌, ◌<◌, ◌≤◌, true, false, List, [], ◌∷◌, length, slice_index}
use Rattle.std.specs.List.{Contains}
use Rattle.net_design.specs.declared.design.Driver.{Driver}
use Rattle.net_design.specs.declared.design.Design.{Design}
use Rattle.net_design.specs.Bits.{BitSet, named}

-- ---- over any relation R: i reads j, for numbers below n

module _ (n : ℕ) (R : ℕ → ℕ → Type 0) where
  -- what follows `before`: each is a number that wasn't listed before it, and comes after all that it reads
  abbrev pub Follows : List ℕ → List ℕ → Type 0
  Follows before [] = Unit {0}
  Follows before (i ∷ rest) = (i < n) × (Contains before i → ⊥) × ((j : ℕ) → R i j → Contains before j) × Follows (before ++ i ∷ []) rest

  -- each number is listed, once, after all that it reads
  pub record IsOrderBy (order : List ℕ) : Type 0 where
    pub all : (i : ℕ) → i < n → Contains order i
    pub follows : Follows [] order

-- the last number of a list, x where it is empty
abbrev pub last_of : ℕ → List ℕ → ℕ
last_of x [] = x
last_of x (i ∷ rest) = last_of i rest

-- no number is listed twice
abbrev pub Once : List ℕ → Type 0
Once [] = Unit {0}
Once (i ∷ rest) = (Contains rest i → ⊥) × Once rest

module _ (R : ℕ → ℕ → Type 0) where
  -- each reads the one before it, and the first reads x
  abbrev pub Chain : ℕ → List ℕ → Type 0
  Chain x [] = Unit {0}
  Chain x (i ∷ rest) = R i x × Chain i rest

  -- each reads the one before it, the first reads the last, none is listed twice, and the least is first
  pub record IsLoopBy (ds : List ℕ) : Type 0 where
    pub some : 0 < length ds
    pub chain : Chain (last_of 0 ds) ds
    pub once : Once ds
    pub least : (i : ℕ) → Contains ds i → slice_index ds 0 ≤ i

-- ---- of a design

-- the bits that driver i reads, and those that it writes; past the last driver there are none
abbrev pub reads_of : List Driver → ℕ → BitSet
reads_of [] i m k = false
reads_of (x ∷ rest) zero m k = named x.code.reads m k
reads_of (x ∷ rest) (suc i) m k = reads_of rest i m k

abbrev pub writes_of : List Driver → ℕ → BitSet
writes_of [] i m k = false
writes_of (x ∷ rest) zero m k = named x.code.writes m k
writes_of (x ∷ rest) (suc i) m k = writes_of rest i m k

-- driver i reads a bit that driver j writes
abbrev pub Reads : Design → ℕ → ℕ → Type 0
Reads d i j = (m : ℕ) × (k : ℕ) × (reads_of d.drivers i m k ≡ true) × (writes_of d.drivers j m k ≡ true)

abbrev pub IsOrder : Design → List ℕ → Type 0
IsOrder d order = IsOrderBy (length d.drivers) (Reads d) order

abbrev pub IsLoop : Design → List ℕ → Type 0
IsLoop d drivers = IsLoopBy (Reads d) drivers
