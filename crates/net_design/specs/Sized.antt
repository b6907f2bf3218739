-- Sized code: each width is 1 to 128 (this project's profile), no place is written more bits than it takes, each span meets P, and each
-- memory of which n bits of a word are written meets R at n, which is 0 where words are read alone.
use Rattle.std.specs.Prelude.{ℕ, ◌+◌, ◌*◌, ◌^◌, ◌<◌, ◌≤◌, List}
use Rattle.std.specs.List.{AllByRecursion}
use Rattle.net_design.specs.declared.rhs.Span.{Span}
use Rattle.net_design.specs.declared.rhs.Room.{Room}
use Rattle.net_design.specs.declared.rhs.Rhs.{Rhs, Number, Bits, Word', Unary', Binary', Choose', Join', Repeat', Select'}
use Rattle.net_design.specs.declared.act.Place.{Place}
use Rattle.net_design.specs.declared.act.Place.TheVariants.{Bits as PlaceBits, BitsFrom, Word as PlaceWord, WordFrom}
use Rattle.net_design.specs.declared.act.Guard.{Guard}
use Rattle.net_design.specs.declared.act.Act.{Act, Set, Read, Branch', Row_of-Act, end_of-Act, more_of-Act, Row_of-Guard, end_of-Guard}
use Rattle.net_design.specs.declared.act.Act.{more_of-Guard}
use Rattle.vidi_bits.specs.Number.{IsWidth}
use Rattle.net_design.specs.Updates.{target_width}

module _ (P : Span → Type 0) (R : Room → ℕ → Type 0) where
  abbrev pub IsRhs : Rhs → Type 0
  IsRhs (Number n) = Unit {0}
  IsRhs (Bits s) = IsWidth s.width × P s
  IsRhs (Word' r p i) = R r 0 × IsRhs i
  IsRhs (Unary' op p a w) = IsWidth w × IsRhs a
  IsRhs (Binary' op p a q b w) = IsWidth w × IsRhs a × IsRhs b
  IsRhs (Choose' p c q a r b) = IsRhs c × IsRhs a × IsRhs b
  IsRhs (Join' p high q low x y) = IsWidth x × IsWidth y × (x + y ≤ 128) × IsRhs high × IsRhs low
  IsRhs (Repeat' n p a w) = IsWidth w × (1 ≤ n) × (n * w ≤ 128) × IsRhs a
  IsRhs (Select' p a q i w) = IsWidth w × IsRhs a × IsRhs i

  abbrev pub IsPlace : Place → Type 0
  IsPlace (PlaceBits s n) = IsWidth n × (s.width ≤ n) × P s
  IsPlace (BitsFrom s i w) = IsWidth w × IsWidth s.width × P s × IsRhs i
  IsPlace (PlaceWord r i low w n) = IsWidth n × (w ≤ n) × R r (low + w) × IsRhs i
  IsPlace (WordFrom r i size j w) = IsWidth w × IsWidth size × R r size × IsRhs i × IsRhs j

  abbrev mutual
    pub IsAct : Act → Type 0
    IsAct (Set target e) = (target_width target ≤ 128) × AllByRecursion IsPlace target × IsRhs e
    IsAct (Read e) = IsRhs e
    IsAct (Branch' n guards m otherwise) = IsGuardRow guards × IsActRow otherwise

    pub IsGuardRow : {n : _} → Row_of-Guard n → Type 0
    IsGuardRow end_of-Guard = Unit {0}
    IsGuardRow (more_of-Guard c k body rest) = (IsRhs c × IsActRow body) × IsGuardRow rest

    pub IsActRow : {n : _} → Row_of-Act n → Type 0
    IsActRow end_of-Act = Unit {0}
    IsActRow (more_of-Act a rest) = IsAct a × IsActRow rest

  abbrev pub IsBlock : List Act → Type 0
  IsBlock acts = AllByRecursion IsAct acts

  abbrev pub AreGuards : List Guard → Type 0
  AreGuards guards = AllByRecursion (λ (g : Guard). IsRhs g.condition × IsBlock g.body) guards

-- a span within 128 bits of one of the first nets, and a memory of at most 128 bits a word within the first words
abbrev pub IsShort : ℕ → Span → Type 0
IsShort limit s = (s.net < limit) × (s.low + s.width ≤ 128)

abbrev pub IsCountable : ℕ → Room → ℕ → Type 0
IsCountable limit r n = (r.first + r.length < limit) × (n ≤ 128)

-- code that can be evaluated, whatever nets and memories there are: its places have 64 bits
abbrev pub IsSizedRhs : Rhs → Type 0
IsSizedRhs e = IsRhs (IsShort (2 ^ 64)) (IsCountable (2 ^ 64)) e

abbrev pub IsSizedPlace : Place → Type 0
IsSizedPlace p = IsPlace (IsShort (2 ^ 64)) (IsCountable (2 ^ 64)) p

abbrev pub IsSizedBlock : List Act → Type 0
IsSizedBlock acts = IsBlock (IsShort (2 ^ 64)) (IsCountable (2 ^ 64)) acts

abbrev pub IsSizedAct : Act → Type 0
IsSizedAct a = IsAct (IsShort (2 ^ 64)) (IsCountable (2 ^ 64)) a

abbrev pub AreSizedGuards : List Guard → Type 0
AreSizedGuards guards = AreGuards (IsShort (2 ^ 64)) (IsCountable (2 ^ 64)) guards
