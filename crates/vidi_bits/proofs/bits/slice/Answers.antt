use Rattle.std.proofs.Common.{sym, ◌^◌}
use Rattle.std.proofs.Math.Facts.{Fits-lt-pow}
use Rattle.std.proofs.Math.Nat.{zero-mod}
use Rattle.vidi_bits.proofs.ArithmeticLemmas.{div-past}
use Rattle.vidi_bits.proofs.bits.slice.Goals as goal

pub returns-then-low-ge128 : goal.returns-then-low-ge128
returns-then-low-ge128 c = rw (div-past c.args.x c.args.low (Fits-lt-pow c.ranges.x) c.if-low-ge128.true) (sym (zero-mod (2 ^ c.args.w)))
