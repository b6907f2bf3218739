use Rattle.std.proofs.Common.{sym, ◌∙◌}
use Rattle.std.proofs.lemmas.Bool.{false≢true}
use Rattle.replay_run.proofs.Forward.{ended-shown, ended-yes}
use Rattle.replay_run.proofs.cursors.Cursors.has_ended.Goals as goal

pub returns-then-are_shown : goal.returns-then-are_shown
returns-then-are_shown c t have are =
    let shown = c.are_shown.ensures.0 c.if-are_shown.true in
    ended-yes t have c.args.self.now c.args.last.now c.at_end.result are c.at_end.ensures shown.0 shown.1

pub returns-else-are_shown : goal.returns-else-are_shown
returns-else-are_shown c t have are = (
  λ r. absurd (false≢true (sym c.if-are_shown.false ∙ r)),
  λ x. c.are_shown.ensures.1 (ended-shown t have c.args.self.now c.args.last.now are x.1),
)
