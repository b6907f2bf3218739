use Rattle.std.proofs.Common.{◌≡◌, ◌++◌, drop, map}
use Rattle.vlog_tree.specs.Words.{tokens_of}
use Rattle.vlog_tree.specs.Spelling.{after_commas}
use Rattle.vlog_print.proofs.spelling.listed.push_with_commas.Given as goal

abbrev pub invariant-loop-part : goal.invariant-loop-part
invariant-loop-part g l =
    l.out ++ tokens_of (after_commas g.T.Spelled.words (map g.T.Spelled.plain (drop l.part-index l.rest))) ≡ l.initial.out
    ++ tokens_of (after_commas g.T.Spelled.words (map g.T.Spelled.plain l.rest))
