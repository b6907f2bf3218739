use Rattle.wave_text.proofs.Inside.{no-dot, at-dot_range}
use Rattle.wave_text.proofs.names.enter.Goals as goal

pub returns-then-len-name : goal.returns-then-len-name
returns-then-len-name c = no-dot c.args.name.now c.part_len-len.result c.part_len-len.ensures.value c.if-len-name.true

pub returns : goal.returns
returns c = at-dot_range c.args.name.now c.part_len-len.result c.part_len-len.ensures.value c.part_len-len.ensures.fits c.if-len-name.false
