-- Nets that only copy another, read in its place: the slot at which each net is read, what is seen so, and code that reads so.
use Rattle.std.specs.Prelude.{◌≡◌, ◌↔◌, ℕ, zero, suc, ◌<◌, ◌≤◌, nat_lt, Bool, true, false, if◌then◌else◌}
use Rattle.std.specs.Prelude.{List, [], ◌∷◌, ◌++◌, All, map, drop, length, slice_index, slice_index_or}
use Rattle.net_instr.specs.declared.instr.Step.{Step}
use Rattle.net_instr.specs.declared.instr.Step.TheVariants.{Number, Copy, Slice, And, Or, Xor, Add, Subtract, Less, Equal, LogicalNot}
use Rattle.net_instr.specs.declared.instr.Step.TheVariants.{Unary, Binary, Choose, Join, Repeat, Select, Word}
use Rattle.net_instr.specs.declared.instr.Instr.{Instr}
use Rattle.net_instr.specs.declared.instr.Instr.TheVariants.{Do, Put, PutFrom, PutWord, PutWordFrom, SkipIfZero, Skip}
use Rattle.net_instr.specs.Machine.{changed, skips, exec, IsInstr}

-- the slot at which slot a is read: nets where `places` says, all others where they stand
abbrev pub place : List ℕ → ℕ → ℕ
place places a = if nat_lt a (length places) then slice_index places a else a

-- the numbers that are seen in slots
abbrev pub through : List ℕ → List ℕ → List ℕ
through places s = map (slice_index s) places ++ drop (length places) s

-- a step, and an instruction, that reads so
abbrev pub moved : List ℕ → Step → Step
moved ps (Number n) = Number n
moved ps (Copy a) = Copy (place ps a)
moved ps (Slice a low w) = Slice (place ps a) low w
moved ps (And a b) = And (place ps a) (place ps b)
moved ps (Or a b) = Or (place ps a) (place ps b)
moved ps (Xor a b) = Xor (place ps a) (place ps b)
moved ps (Add a b w) = Add (place ps a) (place ps b) w
moved ps (Subtract a b w) = Subtract (place ps a) (place ps b) w
moved ps (Less a b) = Less (place ps a) (place ps b)
moved ps (Equal a b) = Equal (place ps a) (place ps b)
moved ps (LogicalNot a) = LogicalNot (place ps a)
moved ps (Unary op a w) = Unary op (place ps a) w
moved ps (Binary op a b w) = Binary op (place ps a) (place ps b) w
moved ps (Choose c a b) = Choose (place ps c) (place ps a) (place ps b)
moved ps (Join high low x y) = Join (place ps high) (place ps low) x y
moved ps (Repeat n a w) = Repeat n (place ps a) w
moved ps (Select a i w) = Select (place ps a) (place ps i) w
moved ps (Word first length i) = Word first length (place ps i)

abbrev pub moved_instr : List ℕ → Instr → Instr
moved_instr ps (Do to step) = Do to (moved ps step)
moved_instr ps (Put to low w a rest) = Put to low w (place ps a) rest
moved_instr ps (PutFrom to low size i w a rest) = PutFrom to low size (place ps i) w (place ps a) rest
moved_instr ps (PutWord first length i low w a rest) = PutWord first length (place ps i) low w (place ps a) rest
moved_instr ps (PutWordFrom first length i size j w a rest) = PutWordFrom first length (place ps i) size (place ps j) w (place ps a) rest
moved_instr ps (SkipIfZero c n) = SkipIfZero (place ps c) n
moved_instr ps (Skip n) = Skip n

-- what is written to slot t is seen at t alone
abbrev pub IsFree : List ℕ → ℕ → Type 0
IsFree ps t = (i : ℕ) → (place ps i ≡ t) ↔ (i ≡ t)

-- words stand behind the nets
abbrev pub IsBehind : List ℕ → Step → Type 0
IsBehind ps (Word first size i) = length ps ≤ first
IsBehind ps step = Unit {0}

-- an instruction that may read so
abbrev pub IsApart : List ℕ → Instr → Type 0
IsApart ps (Do to step) = IsFree ps to × IsBehind ps step
IsApart ps (Put to low w a rest) = IsFree ps to
IsApart ps (PutFrom to low size i w a rest) = IsFree ps to
IsApart ps (PutWord first size i low w a rest) = length ps ≤ first
IsApart ps (PutWordFrom first n i size j w a rest) = length ps ≤ first
IsApart ps i = Unit {0}

-- how many of the next instructions may be left out
abbrev pub most_left : Instr → ℕ
most_left (SkipIfZero c n) = n
most_left (Skip n) = n
most_left i = 0

-- how many are still left out after code
abbrev pub pending : List Instr → ℕ → List ℕ → ℕ
pending [] k s = k
pending (i ∷ code) zero s = pending code (skips i s) (changed i s)
pending (i ∷ code) (suc k) s = pending code k s

-- nets are read at nets; a slot that isn't shared is read at no other net
pub record ArePlaces (ps : List ℕ) (shared : List Bool) : Type 0 where
  pub below : (i : ℕ) → i < length ps → slice_index ps i < length ps
  pub alone : (i : ℕ) → i < length ps → slice_index_or shared (slice_index ps i) true ≡ false → slice_index ps i ≡ i

-- code `out`, whose nets are read at ps in the end, does what code `code` does with nets read at `first`; at most `most` of the
-- instructions after it are left out
pub record Follows (first ps : List ℕ) (most : ℕ) (code out : List Instr) : Type 0 where
  pub long : length ps ≡ length first
  pub same : (s : List ℕ) → length first ≤ length s → through ps (exec out 0 s) ≡ exec code 0 (through first s)
  pub left : (s : List ℕ) → length first ≤ length s → pending out 0 s ≡ pending code 0 (through first s)
  pub few : (s : List ℕ) → length first ≤ length s → pending out 0 s ≤ most

-- code that settles, and code that is clocked then, which show at the places of n nets what other code shows
pub record IsInPlace (n : ℕ) (settling clocking : List Instr) (ps : List ℕ) (settles clocks : List Instr) : Type 0 where
  pub long : length ps ≡ n
  pub below : (i : ℕ) → i < n → slice_index ps i < n
  pub settled : (s : List ℕ) → n ≤ length s → through ps (exec settles 0 s) ≡ exec settling 0 s
  pub clocked : (s : List ℕ) → n ≤ length s → through ps (exec clocks 0 s) ≡ exec clocking 0 (through ps s)
  pub settles_safe : All (λ i. IsInstr i) settles
  pub clocks_safe : All (λ i. IsInstr i) clocks
