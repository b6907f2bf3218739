use Rattle.std.proofs.Common.{arith}
use Rattle.vlog_parse.proofs.Longest.{last_line_of}
use Rattle.vlog_parse.proofs.units.last_line.Goals as goal

pub returns : goal.returns
returns c = last_line_of c.args.tokens.now c.saturating_sub.result c.line_or.result (omega (arith, c.saturating_sub.ensures))
    c.line_or.ensures
