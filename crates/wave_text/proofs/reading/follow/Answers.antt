use Rattle.wave_text.proofs.ReadLines.{left}
use Rattle.wave_text.proofs.reading.follow.Goals as goal

pub returns-then-eq-2 : goal.returns-then-eq-2
returns-then-eq-2 c = left c.args.path.now c.pop.new.self c.args.line.now c.word_at-key.result.now c.as_slice.result.now c.as_slice-2.result.now
    c.eq.result c.eq-2.result c.pop.result c.word_at-key.ensures c.as_slice.ensures c.as_slice-2.ensures c.eq.ensures c.if-eq.false c.eq-2.ensures
    c.if-eq-2.true c.pop.ensures
