use Rattle.std.proofs.Common.{sym, true≢false, ◌∙◌}
use Rattle.vlog_parse.proofs.FileWhole.{file_lawful_from}
use Rattle.vlog_parse.proofs.FileClauses.{found_clause, only_clause}
use Rattle.vlog_parse.proofs.parser.lawful_file.Goals as goal

pub returns-then-not-are_lawful-clause-only : goal.returns-then-not-are_lawful-clause-only
returns-then-not-are_lawful-clause-only c = λ f is. absurd (true≢false
    (sym (c.are_lawful.ensures.1 (file_lawful_from f c.args.tokens.now is.0 is.1)) ∙ c.if-not-are_lawful.true))

pub returns-clause-found : goal.returns-clause-found
returns-clause-found c = found_clause c.whole_file.result c.args.tokens.now (c.are_lawful.ensures.0 c.if-not-are_lawful.false)
    c.whole_file.ensures

pub returns-clause-only : goal.returns-clause-only
returns-clause-only c = only_clause c.whole_file.result c.args.tokens.now c.whole_file.ensures
