-- *Value*: the number of an expression (IEEE 1364-2005, clause 5; widths by 5.4). Everything is unsigned, and there is neither x nor z:
-- a select out of range reads as 0 (this project's profile, in place of 5.2.1's x).
use Rattle.std.specs.Prelude.{ℕ, ◌+◌, ◌*◌, ◌%◌, ◌^◌, ◌==◌, nat_lt, slice_index, if◌then◌else◌}
use Rattle.net_design.specs.declared.rhs.Span.{Span}
use Rattle.net_design.specs.declared.rhs.Room.{Room}
use Rattle.net_design.specs.declared.rhs.Rhs.{Rhs, Number, Bits, Word', Unary', Binary', Choose', Join', Repeat', Select'}
use Rattle.net_design.specs.declared.values.Values.{Values}
use Rattle.vidi_bits.specs.Number.{part_of, repeated}
use Rattle.vidi_bits.specs.Operators.{unary_number, binary_number}

-- bits of a net (5.2.1)
abbrev pub read : Span → Values → ℕ
read s v = part_of (slice_index v.nets s.net) s.low s.width

-- word i of a memory (5.2.2)
abbrev pub word_at : Room → ℕ → Values → ℕ
word_at r i v = if nat_lt i r.length then slice_index v.words (r.first + i) else 0

-- the number of an expression where the nets and words have the numbers of v; 5.1.13 conditional, 5.1.14 concatenation and replication
abbrev pub value : Rhs → Values → ℕ
value (Number n) v = n
value (Bits s) v = read s v
value (Word' r p i) v = word_at r (value i v) v
value (Unary' op p a w) v = unary_number op (value a v) w
value (Binary' op p a q b w) v = binary_number op (value a v) (value b v) w
value (Choose' p c q a r b) v = if value c v == 0 then value b v else value a v
value (Join' p high q low high_width low_width) v = value high v % 2 ^ high_width * 2 ^ low_width + value low v % 2 ^ low_width
value (Repeat' count p a w) v = repeated count (value a v) w
value (Select' p a q i w) v = part_of (value a v) (value i v) w
