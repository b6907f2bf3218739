use Rattle.vlog_lex.proofs.Readings.{one_answer}
use Rattle.vlog_lex.proofs.lexer.one_reading.Goals as goal

pub returns : goal.returns
returns c = one_answer
