use Rattle.std.specs.Str.{bytes_eq}
use Rattle.wave_text.proofs.Inside.{apart-left, apart-right, apart-here, both-inside, not-differ, differs}
use Rattle.wave_text.proofs.names.enter_both.Goals as goal

pub returns-in_err-left : goal.returns-in_err-left
returns-in_err-left c = rw c.from_residual.ensures (apart-left c.args.from.now c.args.to.now c.in_err-left.ensures)

pub returns-in_err-entered : goal.returns-in_err-entered
returns-in_err-entered c = rw c.from_residual-in_err-entered.ensures
    (apart-right c.args.from.now c.args.to.now c.in_ok-left.left.now c.in_ok-left.from_inside.now c.in_ok-left.ensures c.in_err-entered.ensures)

pub returns-then-ne : goal.returns-then-ne
returns-then-ne c = apart-here c.args.from.now c.args.to.now c.in_ok-left.left.now c.in_ok-entered.entered.now c.in_ok-left.from_inside.now
    c.in_ok-entered.to_inside.now c.in_ok-left.ensures c.in_ok-entered.ensures
    (differs (bytes_eq c.in_ok-left.left.now c.in_ok-entered.entered.now) c.if-ne.ensures)

pub returns : goal.returns
returns c = both-inside c.args.from.now c.args.to.now c.in_ok-left.left.now c.in_ok-entered.entered.now c.in_ok-left.from_inside.now
    c.in_ok-entered.to_inside.now c.in_ok-left.ensures c.in_ok-entered.ensures
    (not-differ (bytes_eq c.in_ok-left.left.now c.in_ok-entered.entered.now) c.if-ne.ensures)
