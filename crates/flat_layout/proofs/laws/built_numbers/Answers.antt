use Rattle.flat_layout.proofs.Numbers.{built_numbers}
use Rattle.flat_layout.proofs.laws.built_numbers.Goals as goal

pub returns : goal.returns
returns c = built_numbers
