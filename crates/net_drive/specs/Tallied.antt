-- Bits that spans have, and those that have exactly one driver.
use Rattle.std.specs.Prelude.{not, ◌&&◌, Bool, true, false, Option, None, Some}
use Rattle.net_design.specs.declared.rhs.Span.{Span}
use Rattle.net_design.specs.Bits.{BitSet, bits_of}

-- the bits of a span that may not be there
abbrev pub span_writes : Option Span → BitSet
span_writes None m k = false
span_writes (Some s) m k = bits_of s m k

-- whether a bit has exactly one driver, where it is named at least once, and at least twice: the pins may be one
abbrev pub exact : Bool → Bool → Bool → Bool
exact true once more = not once
exact false once more = once && not more
