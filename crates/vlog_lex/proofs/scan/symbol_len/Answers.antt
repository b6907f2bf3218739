use Rattle.std.proofs.Common.{sym, ◌∙◌, arith}
use Rattle.vlog_lex.specs.Front.{has_symbol}
use Rattle.vlog_lex.proofs.Longest.{symbol_found, symbol_none, from_1, from_2, from_3}
use Rattle.vlog_lex.proofs.scan.symbol_len.Goals as goal

pub returns-then-has_symbol : goal.returns-then-has_symbol
returns-then-has_symbol c =
    symbol_found 3 _ (sym c.has_symbol.ensures ∙ c.if-has_symbol.true) (λ m more few. absurd (omega arith))

pub returns-then-has_symbol-2 : goal.returns-then-has_symbol-2
returns-then-has_symbol-2 c =
    symbol_found 2 _ (sym c.has_symbol-else-has_symbol.ensures ∙ c.if-has_symbol-2.true)
    (from_3 (has_symbol c.args.bytes.now) (sym c.has_symbol.ensures ∙ c.if-has_symbol.false))

pub returns-then-has_symbol-3 : goal.returns-then-has_symbol-3
returns-then-has_symbol-3 c =
    symbol_found 1 _ (sym c.has_symbol-else-has_symbol-2.ensures ∙ c.if-has_symbol-3.true)
    (from_2 (has_symbol c.args.bytes.now) (sym c.has_symbol-else-has_symbol.ensures ∙ c.if-has_symbol-2.false)
    (sym c.has_symbol.ensures ∙ c.if-has_symbol.false))

pub returns-else-has_symbol-3 : goal.returns-else-has_symbol-3
returns-else-has_symbol-3 c =
    symbol_none _
    (from_1 (has_symbol c.args.bytes.now) (sym c.has_symbol-else-has_symbol-2.ensures ∙ c.if-has_symbol-3.false)
    (sym c.has_symbol-else-has_symbol.ensures ∙ c.if-has_symbol-2.false) (sym c.has_symbol.ensures ∙ c.if-has_symbol.false))
