use Rattle.std.proofs.Common.{◌≡◌, ◌++◌, length}
use Rattle.vidi_lines.specs.Lines.{file_lines}
use Rattle.wave_text.specs.Reading.{read_rows}
use Rattle.wave_text.specs.Steps.{rows_of}
use Rattle.wave_text.proofs.reading.read_rows.Given as goal

abbrev pub decreases-lines : goal.decreases-lines
decreases-lines l = length l.rest

abbrev pub invariant-lines : goal.invariant-lines
invariant-lines l = record {
  long : length l.now ≡ l.nets;
  rows : l.rows ++ read_rows l.now (file_lines l.rest) ≡ rows_of l.nets l.text;
}
