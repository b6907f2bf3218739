use Rattle.std.proofs.Math.Facts.{Fits-lt-pow}
use Rattle.vidi_bits.proofs.BitLemmas.{put-by_masks, put-past}
use Rattle.vidi_bits.proofs.bits.put.Goals as goal

pub returns-then-low-ge128 : goal.returns-then-low-ge128
returns-then-low-ge128 c = put-past c.args.x c.args.low c.args.w c.args.part (Fits-lt-pow c.ranges.x) c.if-low-ge128.true

pub returns : goal.returns
returns c = rw (c.ones.ensures, c.trim.ensures) (put-by_masks c.args.x c.args.low c.args.w c.args.part (Fits-lt-pow c.ranges.x))
