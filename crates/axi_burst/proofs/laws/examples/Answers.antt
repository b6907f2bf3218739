use Rattle.std.proofs.Common.{refl}
use Rattle.axi_burst.proofs.laws.examples.Goals as goal

pub returns : goal.returns
returns c = record { lawful = refl; one_burst = refl; too_far = refl; early = refl; rounds_lawful = refl; rounds_done = refl; rounds_many = refl }
