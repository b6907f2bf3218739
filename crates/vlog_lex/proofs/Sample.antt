-- A text that is a name.
use Rattle.std.proofs.Common.{refl, codes}
use Rattle.std.proofs.lemmas.Bool.{false≢true}
use Rattle.vlog_lex.specs.declared.token.TokenKind.TheVariants.{Identifier}
use Rattle.vlog_lex.specs.Words.{is_reserved}
use Rattle.vlog_lex.specs.Lexeme.{IsToken}

pub name_a : IsToken Identifier (codes "a")
unfolding is_reserved
name_a = ((refl, tt), λ h. false≢true h)
