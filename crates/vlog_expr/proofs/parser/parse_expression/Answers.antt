use Rattle.std.proofs.Common.{sym, true≢false, ◌∙◌}
use Rattle.vlog_expr.proofs.Whole.{lawful_from, found_clause, only_clause}
use Rattle.vlog_expr.proofs.parser.parse_expression.Goals as goal

pub returns-then-not-are_lawful-clause-only : goal.returns-then-not-are_lawful-clause-only
returns-then-not-are_lawful-clause-only c = λ t g e. absurd (true≢false
    (sym (c.are_lawful.ensures.1 (lawful_from t c.args.tokens.now g e)) ∙ c.if-not-are_lawful.true))

pub returns-clause-found : goal.returns-clause-found
returns-clause-found c = found_clause c.whole_expr.result c.args.tokens.now (c.are_lawful.ensures.0 c.if-not-are_lawful.false)
    c.whole_expr.ensures

pub returns-clause-only : goal.returns-clause-only
returns-clause-only c = only_clause c.whole_expr.result c.args.tokens.now c.whole_expr.ensures
