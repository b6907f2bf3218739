use Rattle.axi_memory.proofs.Lasting.{memory-is-lasting}
use Rattle.axi_memory.proofs.laws.memory_is_lasting.Goals as goal

pub returns : goal.returns
returns c = memory-is-lasting
