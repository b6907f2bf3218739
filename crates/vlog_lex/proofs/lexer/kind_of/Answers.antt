use Rattle.std.proofs.Common.{append-nil, []}
use Rattle.vlog_lex.proofs.Longest.{part_token}
use Rattle.vlog_lex.proofs.lexer.kind_of.Goals as goal

pub returns-in_err-kind : goal.returns-in_err-kind
returns-in_err-kind c = rw c.from_residual.ensures (λ kind token. c.in_err-kind.ensures kind c.args.text.now [] (append-nil c.args.text.now)
    token)

pub returns-else-len-text : goal.returns-else-len-text
returns-else-len-text c = λ kind token.
    part_token c.in_ok-kind.kind kind c.in_ok-kind.len c.args.text.now c.in_ok-kind.ensures.0 c.in_ok-kind.ensures.1 c.if-len-text.false
    token
