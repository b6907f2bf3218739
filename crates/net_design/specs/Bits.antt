-- The bits that code reads and writes ("Reasons": drivers, read and written bits, surely assigned bits; this project's profile).
-- A set of bits is a test on a net's number and a bit's.
use Rattle.std.specs.Prelude.{◌≡◌, ℕ, ◌+◌, ◌==◌, ◌&&◌, ◌||◌, not, Bool, true, false, nat_le, nat_lt, List, [], ◌∷◌}
use Rattle.std.specs.List.{list_any}
use Rattle.net_design.specs.declared.rhs.Span.{Span}
use Rattle.net_design.specs.declared.rhs.Rhs.{Rhs, Number, Bits, Word', Unary', Binary', Choose', Join', Repeat', Select'}
use Rattle.net_design.specs.declared.act.Place.{Place}
use Rattle.net_design.specs.declared.act.Place.TheVariants.{Bits as PlaceBits, BitsFrom, Word as PlaceWord, WordFrom}
use Rattle.net_design.specs.declared.act.Mask.{Mask}
use Rattle.net_design.specs.declared.act.Act.{Act, Set, Read, Branch', Row_of-Act, end_of-Act, more_of-Act, Row_of-Guard, end_of-Guard}
use Rattle.net_design.specs.declared.act.Act.{more_of-Guard}
use Rattle.net_design.specs.declared.act.Code.{Code}
use Rattle.net_design.specs.declared.act.Timing.{Timing}
use Rattle.net_design.specs.declared.act.Timing.TheVariants.{Blocking, Nonblocking}
use Rattle.vidi_bits.specs.Number.{has}

abbrev pub BitSet : Type 0
BitSet = ℕ → ℕ → Bool

abbrev pub no_bits : BitSet
no_bits m k = false

abbrev pub bits_of : Span → BitSet
bits_of s m k = (s.net == m) && (nat_le s.low k && nat_lt k (s.low + s.width))

-- the bits that masks name
abbrev pub named : List Mask → BitSet
named masks m k = list_any (λ (x : Mask). (x.net == m) && has x.bits k) masks

-- ---- expressions and targets: a select at constant places names its bits, any other the whole vector

abbrev pub reads : Rhs → BitSet
reads (Number n) m k = false
reads (Bits s) m k = bits_of s m k
reads (Word' r p i) m k = reads i m k
reads (Unary' op p a w) m k = reads a m k
reads (Binary' op p a q b w) m k = reads a m k || reads b m k
reads (Choose' p c q a r b) m k = reads c m k || (reads a m k || reads b m k)
reads (Join' p high q low x y) m k = reads high m k || reads low m k
reads (Repeat' n p a w) m k = reads a m k
reads (Select' p a q i w) m k = reads a m k || reads i m k

-- the bits that a place's indexes read
abbrev pub place_reads : Place → BitSet
place_reads (PlaceBits s n) m k = false
place_reads (BitsFrom s i w) m k = reads i m k
place_reads (PlaceWord r i low w n) m k = reads i m k
place_reads (WordFrom r i size j w) m k = reads i m k || reads j m k

-- the bits that an assignment to a place may write
abbrev pub place_writes : Place → BitSet
place_writes (PlaceBits s n) m k = bits_of s m k
place_writes (BitsFrom s i w) m k = bits_of s m k
place_writes (PlaceWord r i low w n) m k = false
place_writes (WordFrom r i size j w) m k = false

-- those that it surely writes
abbrev pub place_adds : Place → BitSet
place_adds (PlaceBits s n) m k = bits_of s m k
place_adds (BitsFrom s i w) m k = false
place_adds (PlaceWord r i low w n) m k = false
place_adds (WordFrom r i size j w) m k = false

abbrev pub target_reads : List Place → BitSet
target_reads places m k = list_any (λ (p : Place). place_reads p m k) places

abbrev pub target_writes : List Place → BitSet
target_writes places m k = list_any (λ (p : Place). place_writes p m k) places

abbrev pub target_adds : List Place → BitSet
target_adds places m k = list_any (λ (p : Place). place_adds p m k) places

-- no bit is named by two of the places
abbrev pub Apart : List Place → Type 0
Apart [] = Unit {0}
Apart (p ∷ ps) = ((m k : ℕ) → place_writes p m k ≡ true → target_writes ps m k ≡ false) × Apart ps

-- ---- the bits that statements may write

abbrev mutual
  pub writes : Act → BitSet
  writes (Set target e) m k = target_writes target m k
  writes (Read e) m k = false
  writes (Branch' n guards l otherwise) m k = writes_guards guards m k || writes_row otherwise m k

  pub writes_guards : {n : _} → Row_of-Guard n → BitSet
  writes_guards end_of-Guard m k = false
  writes_guards (more_of-Guard c n body rest) m k = writes_row body m k || writes_guards rest m k

  pub writes_row : {n : _} → Row_of-Act n → BitSet
  writes_row end_of-Act m k = false
  writes_row (more_of-Act a rest) m k = writes a m k || writes_row rest m k

-- ---- the bits that they surely assign: an assignment its places, `if` and `case` what all arms assign

abbrev mutual
  pub adds : Act → BitSet
  adds (Set target e) m k = target_adds target m k
  adds (Read e) m k = false
  adds (Branch' n guards l otherwise) m k = adds_guards guards m k && adds_row otherwise m k

  pub adds_guards : {n : _} → Row_of-Guard n → BitSet
  adds_guards end_of-Guard m k = true
  adds_guards (more_of-Guard c n body rest) m k = adds_row body m k && adds_guards rest m k

  pub adds_row : {n : _} → Row_of-Act n → BitSet
  adds_row end_of-Act m k = false
  adds_row (more_of-Act a rest) m k = adds a m k || adds_row rest m k

-- ---- the bits that they read, but for those of `known`, which were surely assigned before

-- what is known to the next statement: also what a statement surely assigns, where assignments take effect at once (9.2.1);
-- else it reads the old values (9.2.2)
abbrev pub known_after : Timing → BitSet → BitSet → BitSet
known_after Blocking known more m k = known m k || more m k
known_after Nonblocking known more m k = known m k

abbrev mutual
  pub open_reads : Timing → Act → BitSet → BitSet
  open_reads t (Set target e) known m k = (reads e m k || target_reads target m k) && not (known m k)
  open_reads t (Read e) known m k = reads e m k && not (known m k)
  open_reads t (Branch' n guards l otherwise) known m k = open_reads_guards t guards known m k || open_reads_row t otherwise known m k

  pub open_reads_guards : {n : _} → Timing → Row_of-Guard n → BitSet → BitSet
  open_reads_guards t end_of-Guard known m k = false
  open_reads_guards t (more_of-Guard c n body rest) known m k =
      (reads c m k && not (known m k)) || (open_reads_row t body known m k || open_reads_guards t rest known m k)

  pub open_reads_row : {n : _} → Timing → Row_of-Act n → BitSet → BitSet
  open_reads_row t end_of-Act known m k = false
  open_reads_row t (more_of-Act a rest) known m k = open_reads t a known m k || open_reads_row t rest (known_after t known (adds a)) m k

-- ---- whole blocks

abbrev pub block_writes : List Act → BitSet
block_writes acts m k = list_any (λ (a : Act). writes a m k) acts

abbrev pub block_adds : List Act → BitSet
block_adds acts m k = list_any (λ (a : Act). adds a m k) acts

abbrev pub block_open_reads : Timing → List Act → BitSet → BitSet
block_open_reads t [] known m k = false
block_open_reads t (a ∷ rest) known m k = open_reads t a known m k || block_open_reads t rest (known_after t known (adds a)) m k

-- the bits that a block reads: in an `always @*` those that it didn't surely assign before, in a clocked block all
abbrev pub block_reads : Timing → List Act → BitSet
block_reads t acts m k = block_open_reads t acts no_bits m k

-- the masks of code name the bits that its statements may write, and those that they read
pub record HasBits (t : Timing) (c : Code) : Type 0 where
  pub writes : (m k : ℕ) → named c.writes m k ≡ block_writes c.acts m k
  pub reads : (m k : ℕ) → named c.reads m k ≡ block_reads t c.acts m k

-- ---- memories: whether a statement writes words

abbrev pub place_is_word : Place → Bool
place_is_word (PlaceBits s n) = false
place_is_word (BitsFrom s i w) = false
place_is_word (PlaceWord r i low w n) = true
place_is_word (WordFrom r i size j w) = true

abbrev mutual
  pub writes_words : Act → Bool
  writes_words (Set target e) = list_any place_is_word target
  writes_words (Read e) = false
  writes_words (Branch' n guards l otherwise) = guards_write_words guards || row_writes_words otherwise

  pub guards_write_words : {n : _} → Row_of-Guard n → Bool
  guards_write_words end_of-Guard = false
  guards_write_words (more_of-Guard c n body rest) = row_writes_words body || guards_write_words rest

  pub row_writes_words : {n : _} → Row_of-Act n → Bool
  row_writes_words end_of-Act = false
  row_writes_words (more_of-Act a rest) = writes_words a || row_writes_words rest

abbrev pub block_writes_words : List Act → Bool
block_writes_words acts = list_any writes_words acts
