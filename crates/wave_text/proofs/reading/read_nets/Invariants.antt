use Rattle.std.proofs.Common.{◌≡◌, [], length}
use Rattle.vidi_lines.specs.Lines.{file_lines}
use Rattle.wave_text.specs.Reading.{read_nets}
use Rattle.wave_text.proofs.reading.read_nets.Given as goal

abbrev pub decreases-lines : goal.decreases-lines
decreases-lines l = length l.rest

abbrev pub invariant-lines : goal.invariant-lines
invariant-lines l = read_nets [] [] (file_lines l.text) ≡ read_nets l.path l.nets (file_lines l.rest)
