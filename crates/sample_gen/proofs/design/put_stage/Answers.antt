use Rattle.std.proofs.Common.{append_assoc}
use Rattle.sample_gen.proofs.design.put_stage.Goals as goal

pub returns : goal.returns
returns c = simp append_assoc at c.in_ok-write.ensures.bytes
