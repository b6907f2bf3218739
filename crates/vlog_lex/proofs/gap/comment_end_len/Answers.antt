use Rattle.std.proofs.Common.{arith}
use Rattle.vlog_lex.proofs.Gaps.{end_found, end_none}
use Rattle.vlog_lex.proofs.gap.comment_end_len.Goals as goal

pub returns-then-bytes-i-eq47 : goal.returns-then-bytes-i-eq47
returns-then-bytes-i-eq47 c = end_found c.args.bytes.now c.loop-i.i (omega arith) c.loop-i-test.true c.if-bytes-i-eq42.true
    c.if-bytes-i-eq47.true c.loop-i.invariant

pub returns : goal.returns
returns c = end_none c.args.bytes.now (λ k before star slash. c.loop-i.invariant k (omega arith) star slash)
