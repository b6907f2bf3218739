-- The code of expressions. Slots: the nets, then the words of memories, both twice, then free slots; so net m is slot m, and word k is
-- slot k after the nets. Code is listed from its last instruction to its first.
use Rattle.std.specs.Prelude.{ℕ, ◌+◌, ◌≤◌, ◌<◌, ◌==◌, ◌&&◌, Bool, false, if◌then◌else◌}
use Rattle.std.specs.Prelude.{List, [], ◌∷◌, ◌++◌, length, slice_index}
use Rattle.net_design.specs.vidi_bits.declared.operators.UnaryOp.{UnaryOp}
use Rattle.net_design.specs.vidi_bits.declared.operators.UnaryOp.TheVariants.{LogicalNot}
use Rattle.net_design.specs.vidi_bits.declared.operators.BinaryOp.{BinaryOp}
use Rattle.net_design.specs.vidi_bits.declared.operators.BinaryOp.TheVariants.{Add, Subtract, And, Or, Xor, Less, Equal}
use Rattle.net_design.specs.declared.rhs.Span.{Span}
use Rattle.net_design.specs.declared.rhs.Room.{Room}
use Rattle.net_design.specs.declared.rhs.Rhs.{Rhs, Number, Bits, Word', Unary', Binary', Choose', Join', Repeat', Select'}
use Rattle.net_design.specs.Sized.{IsRhs}
use Rattle.net_instr.specs.declared.instr.Step.{Step}
use Rattle.net_instr.specs.declared.instr.Step.TheVariants as S
use Rattle.net_instr.specs.declared.instr.Instr.{Instr}
use Rattle.net_instr.specs.declared.instr.Instr.TheVariants.{Do}

abbrev pub unary_step : UnaryOp → ℕ → ℕ → Step
unary_step LogicalNot a w = S.LogicalNot a
unary_step op a w = S.Unary op a w

abbrev pub binary_step : BinaryOp → ℕ → ℕ → ℕ → Step
binary_step Add a b w = S.Add a b w
binary_step Subtract a b w = S.Subtract a b w
binary_step And a b w = S.And a b
binary_step Or a b w = S.Or a b
binary_step Xor a b w = S.Xor a b
binary_step Less a b w = S.Less a b
binary_step Equal a b w = S.Equal a b
binary_step op a b w = S.Binary op a b w

module _ (widths : List ℕ) where
  -- all bits of a net
  abbrev pub is_whole : Span → Bool
  is_whole s = (s.low == 0) && (s.width == slice_index widths s.net)

  -- a whole net is read where it stands
  abbrev pub stands : Rhs → Bool
  stands (Bits s) = is_whole s
  stands e = false

  -- the slot of an operand, where t is free for it
  abbrev pub slot : Rhs → ℕ → ℕ
  slot (Bits s) t = if is_whole s then s.net else t
  slot e t = t

  -- the step that gives an expression's number once the code below it has run, which takes the free slots from t on
  abbrev pub step : Rhs → ℕ → Step
  step (Number n) t = S.Number n
  step (Bits s) t = if is_whole s then S.Copy s.net else S.Slice s.net s.low s.width
  step (Word' r p i) t = S.Word (length widths + r.first) r.length (slot i t)
  step (Unary' op p a w) t = unary_step op (slot a t) w
  step (Binary' op p a q b w) t = binary_step op (slot a t) (slot b (t + 1)) w
  step (Choose' p c q a r b) t = S.Choose (slot c t) (slot a (t + 1)) (slot b (t + 2))
  step (Join' p high q low x y) t = S.Join (slot high t) (slot low (t + 1)) x y
  step (Repeat' n p a w) t = S.Repeat n (slot a t) w
  step (Select' p a q i w) t = S.Select (slot a t) (slot i (t + 1)) w

  -- the instruction that puts an operand into slot t, where it doesn't stand elsewhere
  abbrev pub taken : Rhs → ℕ → List Instr
  taken e t = if stands e then [] else Do t (step e t) ∷ []

  -- the code below an expression: its operands, the first one first
  abbrev pub below : Rhs → ℕ → List Instr
  below (Number n) t = []
  below (Bits s) t = []
  below (Word' r p i) t = taken i t ++ below i t
  below (Unary' op p a w) t = taken a t ++ below a t
  below (Binary' op p a q b w) t = (taken b (t + 1) ++ below b (t + 1)) ++ (taken a t ++ below a t)
  below (Choose' p c q a r b) t = (taken b (t + 2) ++ below b (t + 2)) ++ ((taken a (t + 1) ++ below a (t + 1)) ++ (taken c t ++ below c t))
  below (Join' p high q low x y) t = (taken low (t + 1) ++ below low (t + 1)) ++ (taken high t ++ below high t)
  below (Repeat' n p a w) t = taken a t ++ below a t
  below (Select' p a q i w) t = (taken i (t + 1) ++ below i (t + 1)) ++ (taken a t ++ below a t)

-- spans and memories that are there: bits of a net, and words among the first W
module _ (widths : List ℕ) (W : ℕ) where
  abbrev pub IsThere : Span → Type 0
  IsThere s = (s.net < length widths) × (s.low + s.width ≤ slice_index widths s.net)

  abbrev pub HasRoom : Room → ℕ → Type 0
  HasRoom r n = (r.first + r.length ≤ W) × (n ≤ 128)

  abbrev pub IsRhsThere : Rhs → Type 0
  IsRhsThere e = IsRhs IsThere HasRoom e
