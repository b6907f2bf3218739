use Rattle.std.proofs.Common.{◌≡◌, ◌+◌, drop}
use Rattle.axi_burst.specs.Reading.{has_five, read_from, text_of}
use Rattle.axi_burst.proofs.Beats.{HasBeat}
use Rattle.axi_burst.proofs.reading.read_each.Given as goal

abbrev pub invariant-loop-line : goal.invariant-loop-line
invariant-loop-line l = record {
  number : l.number ≡ 1 + l.line-index;
  beat : HasBeat l.known;
  five : l.five ≡ has_five l.lines;
  read : read_from l.five l.known l.number (drop l.line-index l.lines) ≡ text_of l.lines;
}
