use Rattle.vlog_lex.proofs.Gaps.{NoEndBefore}
use Rattle.vlog_lex.proofs.gap.comment_end_len.Given as goal

abbrev pub invariant-loop-i : goal.invariant-loop-i
invariant-loop-i l = NoEndBefore l.bytes l.i
