use Rattle.vlog_lex.proofs.Gaps.{gap_white, gap_line, gap_block, gap_directive}
use Rattle.vlog_lex.proofs.gap.gap_len.Goals as goal

pub returns-then-white-gt0 : goal.returns-then-white-gt0
returns-then-white-gt0 c = gap_white _ _ c.white_len-white.ensures c.if-white-gt0.true

pub returns-then-line-gt0 : goal.returns-then-line-gt0
returns-then-line-gt0 c = gap_line _ _ c.line_comment_len-line.ensures c.if-line-gt0.true

pub returns-then-block-gt0 : goal.returns-then-block-gt0
returns-then-block-gt0 c = gap_block _ _ c.block_comment_len-block.ensures c.if-block-gt0.true

pub returns : goal.returns
returns c = gap_directive _ _ _ _ _ c.white_len-white.ensures c.if-white-gt0.false c.line_comment_len-line.ensures c.if-line-gt0.false
    c.block_comment_len-block.ensures c.if-block-gt0.false c.directive_len.ensures
