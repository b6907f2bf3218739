use Rattle.std.proofs.lemmas.Nat.{and_mask}
use Rattle.vidi_bits.proofs.bits.trim.Goals as goal

pub returns : goal.returns
returns c = rw c.ones.ensures (and_mask c.args.x c.args.w)
