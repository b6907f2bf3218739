use Rattle.vlog_lex.proofs.Gaps.{block_yes, block_open, block_no}
use Rattle.vlog_lex.proofs.gap.block_comment_len.Goals as goal

pub returns-in_default : goal.returns-in_default
returns-in_default c = block_no c.args.bytes.now c.in_default.ensures.none

pub returns-then-end-gt0 : goal.returns-then-end-gt0
returns-then-end-gt0 c = block_yes c.args.bytes.now c.in-Some.body.now c.comment_end_len-end.result c.in-Some.ensures.found
    c.comment_end_len-end.ensures c.if-end-gt0.true

pub returns-else-end-gt0 : goal.returns-else-end-gt0
returns-else-end-gt0 c = block_open c.args.bytes.now c.in-Some.body.now c.comment_end_len-end.result c.in-Some.ensures.found
    c.comment_end_len-end.ensures c.if-end-gt0.false
