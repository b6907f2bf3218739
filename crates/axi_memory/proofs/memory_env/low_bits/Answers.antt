use Rattle.std.proofs.Common.{sym, arith, mod-eq_of_lt}
use Rattle.trace_model.proofs.ContentsLemmas.{below-wide}
use Rattle.axi_memory.proofs.memory_env.low_bits.Goals as goal

pub returns-then-width-ge128 : goal.returns-then-width-ge128
returns-then-width-ge128 c = sym (mod-eq_of_lt (below-wide c.args.number c.args.width (omega arith) c.if-width-ge128.true))
