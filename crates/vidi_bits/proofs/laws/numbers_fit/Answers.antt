use Rattle.vidi_bits.proofs.Below.{unary_below, binary_below, joined_below}
use Rattle.vidi_bits.proofs.laws.numbers_fit.Goals as goal

pub returns : goal.returns
returns c = record {
  unary = unary_below;
  binary = binary_below;
  joined = joined_below;
}
