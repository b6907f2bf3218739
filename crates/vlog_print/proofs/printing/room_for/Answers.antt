use Rattle.std.proofs.Common.{◌≡◌, ◌≤◌, ◌+◌, ◌-◌, ◌^◌, ℕ, List, drop, length, sym, ap, ◌∙◌, arith, add-zero}
use Rattle.std.specs.Prelude.{min}
use Rattle.std.proofs.lemmas.List.{drop_all}
use Rattle.std.proofs.Math.Nat.{min-eq_left}
use Rattle.vlog_parse.specs.vlog_lex.declared.token.Token.{Token}
use Rattle.vlog_print.specs.Printed.{printed}
use Rattle.vlog_print.proofs.printing.room_for.Goals as goal

-- behind the last token the room is that of all
all_counted : (room top whole i : ℕ) (ts : List Token) → room ≤ top → length ts ≤ i → min (room + length (printed (drop i ts))) top ≡ whole
    → room ≡ whole
all_counted room top whole i ts low over same =
    sym (min-eq_left low) ∙ ap (λ (n : ℕ). min n top) (sym (add-zero room))
    ∙ ap (λ (us : List Token). min (room + length (printed us)) top) (sym (drop_all i ts over)) ∙ same

pub returns : goal.returns
returns c =
    let end = c.loop-token-test.false in
    all_counted c.loop-token.room (2 ^ 64 - 1) (min (length (printed c.args.tokens.now)) (2 ^ 64 - 1)) c.loop-token.token-index
    c.args.tokens.now c.loop-token.invariant.0 (omega (arith, end)) c.loop-token.invariant.1
