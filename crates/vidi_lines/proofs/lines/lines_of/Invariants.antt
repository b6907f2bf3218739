use Rattle.std.proofs.Common.{◌≡◌, ◌≤◌, ◌+◌, ◌++◌, length, map}
use Rattle.vidi_lines.specs.Lines.{file_lines, bad_from, bad_lines, words_of}
use Rattle.vidi_lines.proofs.lines.lines_of.Given as goal

abbrev pub invariant-loop-rest : goal.invariant-loop-rest
invariant-loop-rest l = record {
  words : map words_of (file_lines l.bytes) ≡ l.lines ++ map words_of (file_lines l.rest);
  bad : bad_lines l.bytes ≡ bad_from (length l.lines + 1) (file_lines l.rest);
  few : length l.lines + length l.rest ≤ length l.bytes;
}

abbrev pub decreases-loop-rest : goal.decreases-loop-rest
decreases-loop-rest l = length l.rest
