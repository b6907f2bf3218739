use Rattle.vlog_lex.proofs.Readings.{one_stuck_line}
use Rattle.vlog_lex.proofs.lexer.one_stuck_line.Goals as goal

pub returns : goal.returns
returns c = one_stuck_line
