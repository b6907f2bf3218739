-- What ranges make of the names that they stand before, and of memories (IEEE 1364-2005, 4.3, 4.9.3; this project's profile).
use Rattle.std.specs.Prelude.{ℕ, ◌+◌, ◌==◌, ◌&&◌, nat_lt, if◌then◌else◌, Option, Some, None}
use Rattle.vlog_tree.specs.Tree.{ExprOf, RangeOf, ParameterHeadOf, PortHeadOf}
use Rattle.vlog_size.specs.Names.{Readable, fixed}
use Rattle.vlog_size.specs.Size.{Sizes, sizes_of, number}
use Rattle.vlog_scope.specs.declared.extent.Extent.{Extent}
use Rattle.vlog_scope.specs.declared.extent.Extent.TheVariants.{NoRange, Bits, AtFault}

-- the most bits or words that a range can have
abbrev pub MOST : ℕ
MOST = 2147483648

-- what is said of an expression in a constant position
abbrev pub constant_sizes : Readable → ExprOf ℕ → Sizes
constant_sizes r e = sizes_of (fixed r) e

-- one more than a bound's number, where the other bound is 0; none where a bound is at fault
abbrev pub counted : Option ℕ → Option ℕ → Option ℕ
counted (Some low) (Some last) = if (low == 0) && nat_lt last MOST then Some (last + 1) else None
counted _ _ = None

-- the bits of a vector `[first:0]`
abbrev pub vector_width : Readable → RangeOf ℕ → Option ℕ
vector_width r x = counted (number (constant_sizes r x.second)) (number (constant_sizes r x.first))

-- the words of a memory `[0:second]`
abbrev pub memory_length : Readable → RangeOf ℕ → Option ℕ
memory_length r x = counted (number (constant_sizes r x.first)) (number (constant_sizes r x.second))

-- so many bits, where they are known
abbrev pub bits_of : Option ℕ → Extent
bits_of None = AtFault
bits_of (Some w) = Bits w

-- what a range makes of a name
abbrev pub extent_of : Readable → Option (RangeOf ℕ) → Extent
extent_of r None = NoRange
extent_of r (Some x) = bits_of (vector_width r x)

-- with the word `parameter` the range behind it, else that of the parameter before
abbrev pub parameter_extent : Readable → Extent → Option (ParameterHeadOf ℕ) → Extent
parameter_extent r before None = before
parameter_extent r before (Some head) = extent_of r head.range

-- with a direction the range behind it, else that of the port before
abbrev pub port_extent : Readable → Extent → Option (PortHeadOf ℕ) → Extent
port_extent r before None = before
port_extent r before (Some head) = extent_of r head.range

-- the width of a net or of a memory's words: 1 without a range, the most where the range is at fault, so that nothing
-- more is found of what reads it
abbrev pub net_width : Extent → ℕ
net_width NoRange = 1
net_width (Bits w) = w
net_width AtFault = MOST

-- the number of words, the most where a bound is at fault
abbrev pub or_most : Option ℕ → ℕ
or_most None = MOST
or_most (Some n) = n
