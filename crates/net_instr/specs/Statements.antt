-- The code of statements, listed from its last instruction to its first. What is assigned stands in the first free slot, the indexes
-- of the target's places in the slots behind it. Where assignments take effect at once, they change the numbers that are read; else
-- they change the state.
use Rattle.std.specs.Prelude.{ℕ, ◌+◌, ◌/◌, ◌^◌, ◌==◌, ◌&&◌, not, nat_le, Bool, false, if◌then◌else◌}
use Rattle.std.specs.Prelude.{List, [], ◌∷◌, ◌++◌, length}
use Rattle.net_design.specs.vidi_bits.declared.operators.UnaryOp.{UnaryOp}
use Rattle.net_design.specs.vidi_bits.declared.operators.UnaryOp.TheVariants.{Negate, Complement}
use Rattle.net_design.specs.vidi_bits.declared.operators.BinaryOp.{BinaryOp}
use Rattle.net_design.specs.vidi_bits.declared.operators.BinaryOp.TheVariants.{Add, Subtract, Multiply, And, Or, Xor, Xnor, ShiftLeft, ShiftRight}
use Rattle.net_design.specs.declared.rhs.Rhs.{Rhs, Number, Bits, Word', Unary', Binary', Choose', Join', Repeat', Select'}
use Rattle.net_design.specs.declared.act.Place.{Place}
use Rattle.net_design.specs.declared.act.Place.TheVariants.{Bits as PlaceBits, BitsFrom, Word as PlaceWord, WordFrom}
use Rattle.net_design.specs.declared.act.Guard.{Guard}
use Rattle.net_design.specs.declared.act.Act.{Act, Set, Read, Branch', Row_of-Act, end_of-Act, more_of-Act, Row_of-Guard, end_of-Guard}
use Rattle.net_design.specs.declared.act.Act.{more_of-Guard}
use Rattle.net_design.specs.declared.act.Timing.{Timing}
use Rattle.net_design.specs.declared.act.Timing.TheVariants.{Blocking, Nonblocking}
use Rattle.net_design.specs.Updates.{target_width}
use Rattle.net_design.specs.Sized.{IsPlace, IsAct, IsBlock, AreGuards}
use Rattle.net_instr.specs.declared.instr.Step.TheVariants.{Slice}
use Rattle.net_instr.specs.declared.instr.Instr.{Instr}
use Rattle.net_instr.specs.declared.instr.Instr.TheVariants.{Do, Put, PutFrom, PutWord, PutWordFrom, SkipIfZero, Skip}
use Rattle.net_instr.specs.Expressions.{is_whole, slot, step, taken, below, IsThere, HasRoom}
use Rattle.net_instr.specs.Layout.{span, base}

-- xs where slot c isn't 0, else ys
abbrev pub choice : ℕ → List Instr → List Instr → List Instr
choice c xs ys = ys ++ (Skip (length ys) ∷ (xs ++ (SkipIfZero c (length xs + 1) ∷ [])))

-- an operator whose number has at most w bits, whatever its operands have
abbrev pub unary_within : UnaryOp → ℕ → ℕ → Bool
unary_within Negate k w = nat_le k w
unary_within Complement k w = nat_le k w
unary_within op k w = nat_le 1 w

abbrev pub binary_within : BinaryOp → Bool → Bool → ℕ → ℕ → Bool
binary_within Add a b k w = nat_le k w
binary_within Subtract a b k w = nat_le k w
binary_within Multiply a b k w = nat_le k w
binary_within ShiftLeft a b k w = nat_le k w
binary_within ShiftRight a b k w = nat_le k w
binary_within Xnor a b k w = nat_le k w
binary_within And a b k w = a && b
binary_within Or a b k w = a && b
binary_within Xor a b k w = a && b
binary_within op a b k w = nat_le 1 w

-- an expression whose number surely has at most w bits
abbrev pub within : Rhs → ℕ → Bool
within (Number n) w = n / 2 ^ w == 0
within (Bits s) w = nat_le s.width w
within (Word' r p i) w = false
within (Unary' op p a k) w = unary_within op k w
within (Binary' op p a q b k) w = binary_within op (within a w) (within b w) k w
within (Choose' p c q a r b) w = within a w && within b w
within (Join' p high q low x y) w = nat_le (x + y) w
within (Repeat' n p a k) w = false
within (Select' p a q i k) w = nat_le k w

-- how many slots the indexes of a place take
abbrev pub index_slots : Place → ℕ
index_slots (PlaceBits s n) = 0
index_slots (BitsFrom s i w) = 1
index_slots (PlaceWord r i low w n) = 1
index_slots (WordFrom r i size j w) = 2

abbrev pub all_slots : List Place → ℕ
all_slots [] = 0
all_slots (p ∷ ps) = index_slots p + all_slots ps

module _ (widths : List ℕ) (W : ℕ) where
  -- where the numbers begin that assignments change
  abbrev pub offset : Timing → ℕ
  offset Blocking = 0
  offset Nonblocking = span widths W

  -- an expression, put into slot t
  abbrev pub forced : Rhs → ℕ → List Instr
  forced e t = Do t (step widths e t) ∷ below widths e t

  abbrev pub place_index : Place → ℕ → List Instr
  place_index (PlaceBits s n) t = []
  place_index (BitsFrom s i w) t = forced i t
  place_index (PlaceWord r i low w n) t = forced i t
  place_index (WordFrom r i size j w) t = forced j (t + 1) ++ forced i t

  abbrev pub index_code : List Place → ℕ → List Instr
  index_code [] t = []
  index_code (p ∷ ps) t = index_code ps (t + index_slots p) ++ place_index p t

  -- bits of what is assigned put into a place: those above the lowest `rest` ones, which the places after it take
  abbrev pub place_store : ℕ → Place → ℕ → ℕ → List Instr
  place_store o (PlaceBits s n) t rest =
      if s.width == 0 then []
      else (if is_whole widths s then Do (o + s.net) (Slice (base widths W) rest s.width)
      else Put (o + s.net) s.low s.width (base widths W) rest) ∷ []
  place_store o (BitsFrom s i w) t rest = PutFrom (o + s.net) s.low s.width t w (base widths W) rest ∷ []
  place_store o (PlaceWord r i low w n) t rest =
      if w == 0 then [] else PutWord (o + length widths + r.first) r.length t low w (base widths W) rest ∷ []
  place_store o (WordFrom r i size j w) t rest =
      PutWordFrom (o + length widths + r.first) r.length t size (t + 1) w (base widths W) rest ∷ []

  abbrev pub stores : ℕ → List Place → ℕ → List Instr
  stores o [] t = []
  stores o (p ∷ ps) t = stores o ps (t + index_slots p) ++ place_store o p t (target_width ps)

  abbrev pub general_code : ℕ → List Place → Rhs → List Instr
  general_code o target e =
      stores o target (base widths W + 1) ++ (index_code target (base widths W + 1) ++ forced e (base widths W))

  -- one whole net that takes an expression as it is
  abbrev pub set_code : ℕ → List Place → Rhs → List Instr
  set_code o (PlaceBits s n ∷ []) e =
      if is_whole widths s && (not (s.width == 0) && within e s.width)
      then Do (o + s.net) (step widths e (base widths W)) ∷ below widths e (base widths W)
      else general_code o (PlaceBits s n ∷ []) e
  set_code o target e = general_code o target e

  abbrev pub test_code : Rhs → List Instr
  test_code c = taken widths c (base widths W) ++ below widths c (base widths W)

  abbrev mutual
    pub act_code : ℕ → Act → List Instr
    act_code o (Set target e) = set_code o target e
    act_code o (Read e) = []
    act_code o (Branch' n guards m otherwise) = guard_row_code o guards (act_row_code o otherwise)

    pub guard_row_code : {n : _} → ℕ → Row_of-Guard n → List Instr → List Instr
    guard_row_code o end_of-Guard ys = ys
    guard_row_code o (more_of-Guard c k body rest) ys =
        choice (slot widths c (base widths W)) (act_row_code o body) (guard_row_code o rest ys) ++ test_code c

    pub act_row_code : {n : _} → ℕ → Row_of-Act n → List Instr
    act_row_code o end_of-Act = []
    act_row_code o (more_of-Act a rest) = act_row_code o rest ++ act_code o a

  abbrev pub block_code : ℕ → List Act → List Instr
  block_code o [] = []
  block_code o (a ∷ rest) = block_code o rest ++ act_code o a

  abbrev pub guard_code : ℕ → List Guard → List Instr → List Instr
  guard_code o [] ys = ys
  guard_code o (g ∷ rest) ys =
      choice (slot widths g.condition (base widths W)) (block_code o g.body) (guard_code o rest ys) ++ test_code g.condition

  -- code whose places are there
  abbrev pub IsPlaceThere : Place → Type 0
  IsPlaceThere p = IsPlace (IsThere widths W) (HasRoom widths W) p

  abbrev pub IsActThere : Act → Type 0
  IsActThere a = IsAct (IsThere widths W) (HasRoom widths W) a

  abbrev pub IsBlockThere : List Act → Type 0
  IsBlockThere acts = IsBlock (IsThere widths W) (HasRoom widths W) acts

  abbrev pub AreGuardsThere : List Guard → Type 0
  AreGuardsThere guards = AreGuards (IsThere widths W) (HasRoom widths W) guards
