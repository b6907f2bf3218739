use Rattle.std.proofs.Common.{length}
use Rattle.vlog_lex.proofs.Readings.{Reads}
use Rattle.vlog_lex.proofs.lexer.lex.Given as goal

abbrev pub invariant-loop-rest : goal.invariant-loop-rest
invariant-loop-rest l = Reads l.bytes l.rest l.tokens l.line

abbrev pub decreases-loop-rest : goal.decreases-loop-rest
decreases-loop-rest l = length l.rest
