use Rattle.vlog_lex.proofs.Gaps.{line_yes, line_no}
use Rattle.vlog_lex.proofs.gap.line_comment_len.Goals as goal

pub returns-in-Some : goal.returns-in-Some
returns-in-Some c = line_yes c.args.bytes.now c.in-Some.body.now c.line_len.result c.in-Some.ensures.found c.line_len.ensures.value

pub returns-in-None : goal.returns-in-None
returns-in-None c = line_no c.args.bytes.now c.in-None.ensures.none
