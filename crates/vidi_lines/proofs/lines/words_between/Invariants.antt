use Rattle.std.proofs.Common.{◌≡◌, ◌++◌, length}
use Rattle.vidi_lines.specs.Lines.{words_between}
use Rattle.vidi_lines.proofs.lines.words_between.Given as goal

abbrev pub invariant-loop-rest : goal.invariant-loop-rest
invariant-loop-rest l = words_between l.text ≡ l.words ++ words_between l.rest

abbrev pub decreases-loop-rest : goal.decreases-loop-rest
decreases-loop-rest l = length l.rest
