use Rattle.std.proofs.Common.{◌≡◌, ◌≤◌, ◌+◌, ◌++◌, length, map}
use Rattle.vidi_lines.specs.Lines.{file_lines, line_unless_bad}
use Rattle.vidi_lines.proofs.lines.each_line.Given as goal

abbrev pub invariant-loop-rest : goal.invariant-loop-rest
invariant-loop-rest l = record {
  words : map line_unless_bad (file_lines l.bytes) ≡ l.lines ++ map line_unless_bad (file_lines l.rest);
  few : length l.lines + length l.rest ≤ length l.bytes;
}

abbrev pub decreases-loop-rest : goal.decreases-loop-rest
decreases-loop-rest l = length l.rest
