use Rattle.vlog_lex.proofs.Readings.{not_both}
use Rattle.vlog_lex.proofs.lexer.read_or_stuck.Goals as goal

pub returns : goal.returns
returns c = not_both
