use Rattle.std.proofs.Common.{sym, ◌∙◌, refl}
use Rattle.std.proofs.lemmas.Bool.{both_ways}
use Rattle.vlog_lex.specs.Lexeme.{IsName, IsDecimal, IsBased, IsSymbol}
use Rattle.vlog_lex.specs.declared.token.TokenKind.TheVariants.{Identifier, Reserved}
use Rattle.vlog_lex.proofs.Spans.{at_zero}
use Rattle.vlog_lex.proofs.Longest.{longest_name, longest_based, longest_decimal, longest_symbol, no_token}
use Rattle.vlog_lex.proofs.scan.next_token.Goals as goal

pub returns-then-is_reserved : goal.returns-then-is_reserved
returns-then-is_reserved c =
    let name = c.name_len-name.ensures in
    (name.fits, longest_name Reserved _ _ name (name.found c.if-name-gt0.true, sym c.is_reserved.ensures ∙ c.if-is_reserved.true) refl)

pub returns-else-is_reserved : goal.returns-else-is_reserved
returns-else-is_reserved c =
    let name = c.name_len-name.ensures in (
      name.fits,
      longest_name Identifier _ _ name (
        name.found c.if-name-gt0.true,
        both_ways _
            (sym c.is_reserved.ensures ∙ c.if-is_reserved.false),
      ) refl,
    )

pub returns-then-based-gt0 : goal.returns-then-based-gt0
returns-then-based-gt0 c = (c.based_len-based.ensures.fits, longest_based _ _ c.based_len-based.ensures c.if-based-gt0.true)

pub returns-then-decimal-gt0 : goal.returns-then-decimal-gt0
returns-then-decimal-gt0 c =
    let decimal = c.digits_len-decimal.ensures in
    (decimal.fits, longest_decimal _ _ (at_zero IsBased _ _ c.if-based-gt0.false c.based_len-based.ensures) decimal c.if-decimal-gt0.true)

pub returns-then-symbol-gt0 : goal.returns-then-symbol-gt0
returns-then-symbol-gt0 c = (c.symbol_len-symbol.ensures.fits, longest_symbol _ _ c.symbol_len-symbol.ensures c.if-symbol-gt0.true)

pub returns : goal.returns
returns c =
    no_token c.args.bytes.now
    (at_zero IsName _ _ c.if-name-gt0.false c.name_len-name.ensures)
    (at_zero IsBased _ _ c.if-based-gt0.false c.based_len-based.ensures)
    (at_zero IsDecimal _ _ c.if-decimal-gt0.false c.digits_len-decimal.ensures)
    (at_zero IsSymbol _ _ c.if-symbol-gt0.false c.symbol_len-symbol.ensures)
