use Rattle.std.proofs.Common.{sym, ◌∙◌}
use Rattle.vlog_lex.specs.Lexeme.{begins_name, continues_name}
use Rattle.vlog_lex.proofs.Spans.{read_run}
use Rattle.vlog_lex.proofs.scan.name_len.Goals as goal

pub returns-in-len1-up : goal.returns-in-len1-up
returns-in-len1-up c = read_run begins_name continues_name c.args.bytes.now c.name_part_len.result c.in-len1-up.len_at_least
    (sym c.begins_name.ensures ∙ c.if-begins_name.true) c.name_part_len.ensures.value
