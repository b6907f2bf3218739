-- Code of one instance, moved to the instance's first places: `net` is added to each net's place, `word` to each memory's first word,
-- and all else stays.
use Rattle.std.specs.Prelude.{ℕ, ◌+◌, ◌-◌, ◌<◌, ◌^◌, ◌&&◌, nat_le, List, map, drop, All}
use Rattle.net_design.specs.declared.rhs.Span.{Span}
use Rattle.net_design.specs.declared.rhs.Room.{Room}
use Rattle.net_design.specs.declared.rhs.Rhs.{Rhs, Number, Bits, Word', Unary', Binary', Choose', Join', Repeat', Select'}
use Rattle.net_design.specs.declared.act.Place.{Place}
use Rattle.net_design.specs.declared.act.Place.TheVariants.{Bits as PlaceBits, BitsFrom, Word as PlaceWord, WordFrom}
use Rattle.net_design.specs.declared.act.Mask.{Mask}
use Rattle.net_design.specs.declared.act.Guard.{Guard}
use Rattle.net_design.specs.declared.act.Act.{Act, Set, Read, Branch', Row_of-Act, end_of-Act, more_of-Act, Row_of-Guard, end_of-Guard}
use Rattle.net_design.specs.declared.act.Act.{more_of-Guard}
use Rattle.net_design.specs.declared.act.Code.{Code}
use Rattle.net_design.specs.declared.values.Target.{Target}
use Rattle.net_design.specs.declared.values.Target.TheVariants.{Net, Word as WordTarget}
use Rattle.net_design.specs.declared.values.Update.{Update}
use Rattle.net_design.specs.declared.values.Values.{Values}
use Rattle.std.specs.List.{AllByRecursion}
use Rattle.net_design.specs.Sized.{IsRhs, IsPlace, IsBlock, IsShort, IsCountable}
use Rattle.net_design.specs.Bits.{BitSet}

module _ (net word : ℕ) where
  abbrev pub moved_span : Span → Span
  moved_span s = record { net = net + s.net; low = s.low; width = s.width }

  abbrev pub moved_room : Room → Room
  moved_room r = record { first = word + r.first; length = r.length }

  abbrev pub moved_rhs : Rhs → Rhs
  moved_rhs (Number n) = Number n
  moved_rhs (Bits s) = Bits (moved_span s)
  moved_rhs (Word' r p i) = Word' (moved_room r) p (moved_rhs i)
  moved_rhs (Unary' op p a w) = Unary' op p (moved_rhs a) w
  moved_rhs (Binary' op p a q b w) = Binary' op p (moved_rhs a) q (moved_rhs b) w
  moved_rhs (Choose' p c q a r b) = Choose' p (moved_rhs c) q (moved_rhs a) r (moved_rhs b)
  moved_rhs (Join' p high q low x y) = Join' p (moved_rhs high) q (moved_rhs low) x y
  moved_rhs (Repeat' n p a w) = Repeat' n p (moved_rhs a) w
  moved_rhs (Select' p a q i w) = Select' p (moved_rhs a) q (moved_rhs i) w

  abbrev pub moved_place : Place → Place
  moved_place (PlaceBits s n) = PlaceBits (moved_span s) n
  moved_place (BitsFrom s i w) = BitsFrom (moved_span s) (moved_rhs i) w
  moved_place (PlaceWord r i low w n) = PlaceWord (moved_room r) (moved_rhs i) low w n
  moved_place (WordFrom r i size j w) = WordFrom (moved_room r) (moved_rhs i) size (moved_rhs j) w

  abbrev mutual
    pub moved_act : Act → Act
    moved_act (Set target e) = Set (map moved_place target) (moved_rhs e)
    moved_act (Read e) = Read (moved_rhs e)
    moved_act (Branch' n guards l otherwise) = Branch' n (moved_guards guards) l (moved_row otherwise)

    pub moved_guards : {n : _} → Row_of-Guard n → Row_of-Guard n
    moved_guards end_of-Guard = end_of-Guard
    moved_guards (more_of-Guard c k body rest) = more_of-Guard (moved_rhs c) k (moved_row body) (moved_guards rest)

    pub moved_row : {n : _} → Row_of-Act n → Row_of-Act n
    moved_row end_of-Act = end_of-Act
    moved_row (more_of-Act a rest) = more_of-Act (moved_act a) (moved_row rest)

  abbrev pub moved_guard : Guard → Guard
  moved_guard g = record { condition = moved_rhs g.condition; body = map moved_act g.body }

  abbrev pub moved_mask : Mask → Mask
  moved_mask x = record { net = net + x.net; bits = x.bits }

  abbrev pub moved : Code → Code
  moved c = record { acts = map moved_act c.acts; writes = map moved_mask c.writes; reads = map moved_mask c.reads }

  -- the numbers from the first places on
  abbrev pub from_first : Values → Values
  from_first v = record { nets = drop net v.nets; words = drop word v.words }

  -- the bits of the nets from the first on that are in p, where p counts nets from there
  abbrev pub moved_bits : BitSet → BitSet
  moved_bits p m k = nat_le net m && p (m - net) k

  abbrev pub moved_target : Target → Target
  moved_target (Net m) = Net (net + m)
  moved_target (WordTarget i) = WordTarget (word + i)

  abbrev pub moved_update : Update → Update
  moved_update u = record { target = moved_target u.target; low = u.low; width = u.width; number = u.number }

-- ---- code that can be moved: its places are below 2 to the power of 32

abbrev pub IsNearRhs : Rhs → Type 0
IsNearRhs e = IsRhs (IsShort (2 ^ 32)) (IsCountable (2 ^ 32)) e

abbrev pub AreNearPlaces : List Place → Type 0
AreNearPlaces places = AllByRecursion (λ (p : Place). IsPlace (IsShort (2 ^ 32)) (IsCountable (2 ^ 32)) p) places

abbrev pub IsNearBlock : List Act → Type 0
IsNearBlock acts = IsBlock (IsShort (2 ^ 32)) (IsCountable (2 ^ 32)) acts

pub record IsNear (c : Code) : Type 0 where
  pub acts : IsNearBlock c.acts
  pub writes : All (λ (x : Mask). x.net < 2 ^ 32) c.writes
  pub reads : All (λ (x : Mask). x.net < 2 ^ 32) c.reads
