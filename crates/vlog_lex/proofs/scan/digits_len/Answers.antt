use Rattle.std.proofs.Common.{sym, ◌∙◌}
use Rattle.vlog_lex.specs.Lexeme.{is_digit_of, continues_digits}
use Rattle.vlog_lex.proofs.Spans.{read_run}
use Rattle.vlog_lex.proofs.scan.digits_len.Goals as goal

pub returns-in-len1-up : goal.returns-in-len1-up
returns-in-len1-up c = read_run (is_digit_of c.args.base) (continues_digits c.args.base) c.args.bytes.now c.digit_part_len.result
    c.in-len1-up.len_at_least (sym c.is_digit_of.ensures ∙ c.if-is_digit_of.true) c.digit_part_len.ensures.value
