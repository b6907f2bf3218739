use Rattle.std.proofs.Common.{◌≡◌, ◌++◌, drop, map}
use Rattle.vlog_tree.specs.Words.{tokens_of}
use Rattle.vlog_tree.specs.Spelling.{in_row}
use Rattle.vlog_print.proofs.spelling.listed.push_in_row.Given as goal

abbrev pub invariant-loop-part : goal.invariant-loop-part
invariant-loop-part g l =
    l.out ++ tokens_of (in_row g.T.Spelled.words (map g.T.Spelled.plain (drop l.part-index l.parts))) ≡ l.initial.out
    ++ tokens_of (in_row g.T.Spelled.words (map g.T.Spelled.plain l.parts))
