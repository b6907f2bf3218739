use Rattle.std.proofs.Common.{ℕ, List, ◌≡◌, sym, ap, subst, Some, Err, ◌∙◌}
use Rattle.vlog_item.specs.vlog_lex.declared.token.Token.{Token}
use Rattle.vlog_parse.specs.declared.error.ParseError.TheVariants.{Deep}
use Rattle.vlog_item.specs.vlog_expr.Marks.{all_marked}
use Rattle.vlog_parse.specs.Depth.{IsDeep}
use Rattle.vlog_parse.proofs.parser.parse.Goals as goal

same_some : (a b : ℕ) → Some a ≡ Some b → a ≡ b
same_some a b h = cc

abbrev DeepAt : ℕ → List Token → Type 0
DeepAt line ts = IsDeep (all_marked ts) line

pub returns-in-Some-clause-refused : goal.returns-in-Some-clause-refused
returns-in-Some-clause-refused c = subst (DeepAt c.in-Some.line) c.as_slice.ensures
    ((c.deep_line.ensures.found c.in-Some.line).0 c.in-Some.is)

pub returns-in-Some-clause-deep : goal.returns-in-Some-clause-deep
returns-in-Some-clause-deep c = λ line deep.
    let found = (c.deep_line.ensures.found line).1 (subst (DeepAt line) (sym c.as_slice.ensures) deep) in
    ap (λ (l : ℕ). Err (Deep l)) (same_some c.in-Some.line line (sym c.in-Some.is ∙ found))
