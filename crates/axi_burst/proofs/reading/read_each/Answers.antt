use Rattle.std.proofs.Common.{arith}
use Rattle.std.proofs.lemmas.Grind.{common_steps}
use Rattle.axi_burst.proofs.Beats.{beat-kept}
use Rattle.axi_burst.proofs.reading.read_each.Goals as goal

pub loop-line-preserved : goal.loop-line-preserved
loop-line-preserved c = record {
  number = omega arith;
  beat = beat-kept c.has_five-five.result c.loop-line.known c.take_words.new.self c.loop-line.number c.as_slice.result.now c.loop-line.invariant.beat
      c.in_ok-take_words.ensures;
  five = c.loop-line.invariant.five;
  read = grind (arith, common_steps);
}
