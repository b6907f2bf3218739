-- Which slots code needs: those that it may read before it surely writes them. Marks on the nets say it, made from the first instruction
-- on; and the slot that an instruction may change.
use Rattle.std.specs.Prelude.{◌≡◌, ℕ, zero, ◌+◌, ◌-◌, ◌≤◌, ◌<◌, max, nat_lt, Bool, true, if◌then◌else◌}
use Rattle.std.specs.Prelude.{List, [], ◌∷◌, All, drop, length, slice_index, slice_index_or, slice_set}
use Rattle.net_instr.specs.declared.instr.Step.{Step}
use Rattle.net_instr.specs.declared.instr.Step.TheVariants.{Number, Copy, Slice, And, Or, Xor, Add, Subtract, Less, Equal, LogicalNot}
use Rattle.net_instr.specs.declared.instr.Step.TheVariants.{Unary, Binary, Choose, Join, Repeat, Select, Word}
use Rattle.net_instr.specs.declared.instr.Instr.{Instr}
use Rattle.net_instr.specs.declared.instr.Instr.TheVariants.{Do, Put, PutFrom, PutWord, PutWordFrom, SkipIfZero, Skip}
use Rattle.net_instr.specs.declared.needs.Marks.{Marks}
use Rattle.net_instr.specs.Machine.{exec}
use Rattle.net_instr.specs.InPlace.{through, most_left, IsBehind}

-- the slots that are read, but for words of memories
abbrev pub reads : Step → List ℕ
reads (Number n) = []
reads (Copy a) = a ∷ []
reads (Slice a low w) = a ∷ []
reads (And a b) = a ∷ b ∷ []
reads (Or a b) = a ∷ b ∷ []
reads (Xor a b) = a ∷ b ∷ []
reads (Add a b w) = a ∷ b ∷ []
reads (Subtract a b w) = a ∷ b ∷ []
reads (Less a b) = a ∷ b ∷ []
reads (Equal a b) = a ∷ b ∷ []
reads (LogicalNot a) = a ∷ []
reads (Unary op a w) = a ∷ []
reads (Binary op a b w) = a ∷ b ∷ []
reads (Choose c a b) = c ∷ a ∷ b ∷ []
reads (Join high low x y) = high ∷ low ∷ []
reads (Repeat n a w) = a ∷ []
reads (Select a i w) = a ∷ i ∷ []
reads (Word first length i) = i ∷ []

abbrev pub reads_of : Instr → List ℕ
reads_of (Do to step) = reads step
reads_of (Put to low w a rest) = to ∷ a ∷ []
reads_of (PutFrom to low size i w a rest) = to ∷ i ∷ a ∷ []
reads_of (PutWord first length i low w a rest) = i ∷ a ∷ []
reads_of (PutWordFrom first length i size j w a rest) = i ∷ j ∷ a ∷ []
reads_of (SkipIfZero c n) = c ∷ []
reads_of (Skip n) = []

-- words that are read or written stand behind the nets
abbrev pub HasWordsBehind : List ℕ → Instr → Type 0
HasWordsBehind ps (Do to step) = IsBehind ps step
HasWordsBehind ps (PutWord first size i low w a rest) = length ps ≤ first
HasWordsBehind ps (PutWordFrom first n i size j w a rest) = length ps ≤ first
HasWordsBehind ps i = Unit {0}

-- a slot is read: it is needed where it wasn't surely written before
abbrev pub with_read : ℕ → Marks → Marks
with_read a m = if slice_index_or m.done a true then m else record { read = slice_set m.read a true; done = m.done }

abbrev pub with_reads : List ℕ → Marks → Marks
with_reads [] m = m
with_reads (a ∷ slots) m = with_reads slots (with_read a m)

-- a slot is written, surely where no instruction is left out
abbrev pub with_write : ℕ → Instr → Marks → Marks
with_write zero (Do to step) m = record { read = m.read; done = slice_set m.done to true }
with_write left i m = m

-- the marks after an instruction, and after code, of which up to `left` instructions may be left out
abbrev pub with_instr : ℕ → Instr → Marks → Marks
with_instr left i m = with_write left i (with_reads (reads_of i) m)

abbrev pub with_code : List Instr → ℕ → Marks → Marks
with_code [] left m = m
with_code (i ∷ code) left m = with_code code (max (left - 1) (most_left i)) (with_instr left i m)

-- the places of marks that are set, where the first one has place k
abbrev pub set_places : ℕ → List Bool → List ℕ
set_places k [] = []
set_places k (b ∷ marks) = if b then k ∷ set_places (k + 1) marks else set_places (k + 1) marks

-- what code shows at the places depends on these nets alone, and on what stands behind the nets
pub record IsEnough (ps : List ℕ) (code : List Instr) (nets : List ℕ) : Type 0 where
  pub within : All (λ m. m < length ps) nets
  pub same : (s t : List ℕ) → length s ≡ length t → length ps ≤ length s → drop (length ps) s ≡ drop (length ps) t
      → All (λ m. slice_index s m ≡ slice_index t m) nets → through ps (exec code 0 s) ≡ through ps (exec code 0 t)

-- the only slot that an instruction may change
abbrev pub target : Instr → List ℕ → ℕ
target (Do to step) s = to
target (Put to low w a rest) s = to
target (PutFrom to low size i w a rest) s = to
target (PutWord first length i low w a rest) s = if nat_lt (slice_index s i) length then first + slice_index s i else 0
target (PutWordFrom first length i size j w a rest) s = if nat_lt (slice_index s i) length then first + slice_index s i else 0
target (SkipIfZero c n) s = 0
target (Skip n) s = 0
